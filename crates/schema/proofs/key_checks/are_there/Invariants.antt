use Rattle.std.proofs.Common.{drop}
use Rattle.std.specs.List.{AllByRecursion}
use Rattle.schema.specs.Keys.{key_columns_view}
use Rattle.schema.specs.Views.{field_views}
use Rattle.schema.specs.inner.Keyed.{IsKeyOf}
use Rattle.schema.proofs.key_checks.are_there.Given as goal

-- what is left is there just where all are
abbrev pub invariant-loop-key : goal.invariant-loop-key
invariant-loop-key l = record {
  whole : AllByRecursion (IsKeyOf (field_views l.fields)) (key_columns_view (drop l.key-index l.keys)) → AllByRecursion (IsKeyOf (field_views l.fields)) (key_columns_view l.keys);
  left : AllByRecursion (IsKeyOf (field_views l.fields)) (key_columns_view l.keys) → AllByRecursion (IsKeyOf (field_views l.fields)) (key_columns_view (drop l.key-index l.keys));
}
