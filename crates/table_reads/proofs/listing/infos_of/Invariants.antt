use Rattle.std.proofs.Common.{◌≡◌, ◌++◌, drop, map}
use Rattle.manifest.specs.Groups.{groups_of_blocks}
use Rattle.table_reads.specs.Listing.{told_of, told_by}
use Rattle.table_reads.proofs.listing.infos_of.Given as goal

abbrev pub invariant-loop-block : goal.invariant-loop-block
invariant-loop-block l = map told_by l.infos.items ++ map told_of (groups_of_blocks (drop l.block-index l.block-items)) ≡ map told_of (groups_of_blocks l.block-items)
