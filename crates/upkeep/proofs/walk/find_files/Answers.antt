use Rattle.std.proofs.Common.{arith}
use Rattle.folders.specs.Named.{IsIn}
use Rattle.upkeep.specs.inner.Walk.{paths_of}
use Rattle.upkeep.proofs.Walking.{no_files, more_files, all_files}
use Rattle.upkeep.proofs.walk.find_files.Goals as goal

pub loop-entry-init : goal.loop-entry-init
loop-entry-init c = no_files (IsIn c.args.named.now) c.args.folder.now c.args.entries.now (paths_of c.args.found.now)

pub loop-entry-preserved : goal.loop-entry-preserved
loop-entry-preserved c =
    more_files (IsIn c.args.named.now) c.args.folder.now c.args.entries.now c.loop-entry.entry-index c.entry-item.result c.loop-entry-test.true c.entry-item.is
    (paths_of c.args.found.now) (paths_of c.loop-entry.found) (paths_of c.find_file.new.found) c.loop-entry.invariant c.in_ok-find_file.ensures.finds

pub returns-clause-finds : goal.returns-clause-finds
returns-clause-finds c =
    all_files (IsIn c.args.named.now) c.args.folder.now c.args.entries.now c.loop-entry.entry-index (paths_of c.args.found.now) (paths_of c.loop-entry.found) (omega arith) c.loop-entry.invariant
