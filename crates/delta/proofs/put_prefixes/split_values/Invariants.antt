use Rattle.std.proofs.Common.{◌≡◌, ◌++◌, [], drop, map}
use Rattle.std.specs.Prelude.{pos}
use Rattle.schema.specs.Values.{bytes}
use Rattle.schema.specs.Borrowed.{value_ref_view}
use Rattle.delta.specs.ByteDeltas.{longest_prefixes, shortest_suffixes}
use Rattle.delta.specs.inner.Put.{text_of, before_at}
use Rattle.delta.proofs.put_prefixes.split_values.Given as goal

abbrev pub invariant-loop-i : goal.invariant-loop-i
invariant-loop-i g l = let texts = map text_of (map g.V.Lends.lent l.values) in record {
  prefixes : l.prefixes.items ++ map pos (longest_prefixes (before_at texts l.i) (drop l.i texts)) ≡ map pos (longest_prefixes [] texts);
  suffixes : map value_ref_view l.suffixes.items ++ map bytes (shortest_suffixes (before_at texts l.i) (drop l.i texts)) ≡ map bytes (shortest_suffixes [] texts);
}
