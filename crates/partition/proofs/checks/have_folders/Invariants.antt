use Rattle.std.proofs.Common.{◌≡◌, drop, map}
use Rattle.schema.specs.Values.{view}
use Rattle.schema.specs.Keys.{key_columns_view}
use Rattle.partition.specs.inner.Checks.{have_folders}
use Rattle.partition.proofs.checks.have_folders.Given as goal

-- the answer for the columns that are left is that for all
abbrev pub invariant-loop-i : goal.invariant-loop-i
invariant-loop-i l = have_folders (key_columns_view (drop l.i l.columns)) (map view (drop l.i l.values)) ≡ have_folders (key_columns_view l.columns) (map view l.values)
