use Rattle.std.proofs.Common.{◌≡◌, ◌++◌, map, take}
use Rattle.std.specs.List.{concat}
use Rattle.delta.specs.inner.Put.{Extends, text_of}
use Rattle.delta.proofs.put_lengths.put_lengths.Given as goal

abbrev pub invariant-loop-value : goal.invariant-loop-value
invariant-loop-value g l = record {
  joined : l.out.items ≡ l.initial.out.items ++ concat (map text_of (map g.V.Lends.lent (take l.value-index l.values)));
  front : Extends l.fn.out.items l.out.items;
}
