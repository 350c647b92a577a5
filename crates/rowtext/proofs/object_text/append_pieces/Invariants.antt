use Rattle.std.proofs.Common.{◌≡◌, ◌++◌, drop, flat_map}
use Rattle.rowtext.specs.inner.Levels.{piece}
use Rattle.rowtext.proofs.Sorting.{BeginsWith}
use Rattle.rowtext.proofs.object_text.append_pieces.Given as goal

abbrev pub invariant-loop-index : goal.invariant-loop-index
invariant-loop-index l = record {
  pieces : l.text.items ++ flat_map (piece l.fn.text.items l.starts) (drop l.index-index l.order) ≡ l.fn.text.items ++ flat_map (piece l.fn.text.items l.starts) l.order;
  begins : BeginsWith l.fn.text.items l.text.items;
}
