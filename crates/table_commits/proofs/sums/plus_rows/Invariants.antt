use Rattle.std.proofs.Common.{◌≡◌, ◌+◌, drop}
use Rattle.manifest.specs.Groups.{handles_view}
use Rattle.table_commits.specs.Dropping.{rows_in}
use Rattle.table_commits.proofs.sums.plus_rows.Given as goal

abbrev pub invariant-loop-group : goal.invariant-loop-group
invariant-loop-group l = l.all + rows_in (handles_view (drop l.group-index l.groups)) ≡ l.initial.count + rows_in (handles_view l.groups)
