use Rattle.std.proofs.Common.{◌≡◌, drop}
use Rattle.schema.specs.Keys.{key_columns_view}
use Rattle.table_changes.proofs.appending_gathered.same_columns.Given as goal

-- what is left is the same just where all is
abbrev pub invariant-loop-i : goal.invariant-loop-i
invariant-loop-i l = record {
  whole : key_columns_view (drop l.i l.a) ≡ key_columns_view (drop l.i l.b) → key_columns_view l.a ≡ key_columns_view l.b;
  left : key_columns_view l.a ≡ key_columns_view l.b → key_columns_view (drop l.i l.a) ≡ key_columns_view (drop l.i l.b);
}
