use Rattle.std.proofs.Common.{◌≡◌, ◌++◌, map, drop, string_bytes, Some}
use Rattle.std.specs.List.{AllByRecursion}
use Rattle.schema.specs.Keys.{KeyColumn, key_columns_view, field_at, key_field}
use Rattle.schema.specs.Views.{field_views}
use Rattle.partition.proofs.columns.key_columns.Given as goal

abbrev pub invariant-loop-name : goal.invariant-loop-name
invariant-loop-name l = record {
  there : AllByRecursion (λ (k : KeyColumn). field_at k.at (field_views l.fields) ≡ Some (key_field k)) (key_columns_view l.columns.items);
  named : map (λ (k : KeyColumn). k.name) (key_columns_view l.columns.items) ++ map string_bytes (drop l.name-index l.names) ≡ map string_bytes l.names;
}
