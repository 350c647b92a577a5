use Rattle.std.proofs.Common.{◌≡◌, ◌++◌, drop, flat_map}
use Rattle.rowtext.specs.inner.Levels.{piece}
use Rattle.rowtext.proofs.object_text.put_pieces.Given as goal

abbrev pub invariant-loop-index : goal.invariant-loop-index
invariant-loop-index l = l.out.items ++ flat_map (piece l.text l.starts) (drop l.index-index l.order) ≡ l.initial.out.items ++ flat_map (piece l.text l.starts) l.order
