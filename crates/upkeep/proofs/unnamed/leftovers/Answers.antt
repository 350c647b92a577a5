use Rattle.std.proofs.Common.{List, ℕ}
use Rattle.schema.specs.Keys.{key_columns_view}
use Rattle.manifest.specs.Groups.{root_of}
use Rattle.folders.specs.Named.{IsNamed, IsIn}
use Rattle.upkeep.specs.Strays.{AreStrays}
use Rattle.upkeep.specs.Intact.{AreLeftovers}
use Rattle.upkeep.specs.inner.Walk.{paths_of}
use Rattle.upkeep.proofs.Looking.{looks_here, if_ok_map}
use Rattle.upkeep.proofs.Keeping.{strays_are}
use Rattle.upkeep.proofs.unnamed.leftovers.Goals as goal

pub returns-in_err-named-clause-effect : goal.returns-in_err-named-clause-effect
returns-in_err-named-clause-effect g c = looks_here (g.D.Disk.state c.args.vault.now.disk)

pub returns-clause-stands : goal.returns-clause-stands
returns-clause-stands g c = λ honest.
    let image = (g.D.Disk.state c.args.vault.now.disk).seen in
    let root = root_of c.args.manifest.now in
    let keys = key_columns_view c.keys.result.now in
    let Named = IsIn c.in_ok-named.named in
    if_ok_map (λ found. AreStrays image keys Named (paths_of found)) (λ found. AreLeftovers image root (paths_of found)) c.strays.result
    (λ found are. strays_are image keys root.keys Named (IsNamed root) (paths_of found) c.keys.ensures.are c.in_ok-named.ensures.named are) (c.strays.ensures.stands honest)
