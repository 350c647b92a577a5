use Rattle.std.proofs.Common.{◌≡◌, ◌++◌, drop, map}
use Rattle.manifest.specs.Groups.{handles_view}
use Rattle.table_reads.specs.Listing.{told_of, told_by}
use Rattle.table_reads.proofs.listing.push_infos.Given as goal

abbrev pub invariant-loop-group : goal.invariant-loop-group
invariant-loop-group l = map told_by l.infos.items ++ map told_of (handles_view (drop l.group-index l.groups)) ≡ map told_by l.initial.infos.items ++ map told_of (handles_view l.groups)
