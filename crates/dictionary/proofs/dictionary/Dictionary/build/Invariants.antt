use Rattle.std.proofs.Common.{◌≡◌, ◌≤◌, map, take, length}
use Rattle.std.specs.Prelude.{All}
use Rattle.schema.specs.Values.{view}
use Rattle.dictionary.specs.Entries.{IsIndexed, IsLeafValue}
use Rattle.dictionary.specs.inner.Keys.{key_view}
use Rattle.dictionary.proofs.dictionary.Dictionary.build.Given as goal

-- the values so far have these entries and indexes
abbrev pub invariant-loop-value : goal.invariant-loop-value
invariant-loop-value g l = record {
  same : map key_view l.keys.keys ≡ map view l.entries.items;
  few : length l.entries.items ≤ 65536;
  indexed : IsIndexed (take l.value-index (map g.V.Lends.lent l.values)) (map view l.entries.items) l.indexes.items;
  of_leaf : All IsLeafValue (take l.value-index (map g.V.Lends.lent l.values));
}
