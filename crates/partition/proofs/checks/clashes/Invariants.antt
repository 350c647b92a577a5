use Rattle.std.proofs.Common.{◌≡◌, drop}
use Rattle.std.specs.List.{list_any}
use Rattle.schema.specs.Keys.{key_column_view, key_columns_view}
use Rattle.partition.specs.inner.Checks.{clashes}
use Rattle.partition.proofs.checks.clashes.Given as goal

-- the answer for the columns that are left is that for all
abbrev pub invariant-loop-other : goal.invariant-loop-other
invariant-loop-other l = list_any (clashes (key_column_view l.column)) (key_columns_view (drop l.other-index l.others)) ≡ list_any (clashes (key_column_view l.column)) (key_columns_view l.others)
