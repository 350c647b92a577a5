use Rattle.std.proofs.Common.{◌≡◌, map}
use Rattle.shred.specs.Kept.{kept_view}
use Rattle.shred.specs.inner.Growing.{nils}
use Rattle.shred.proofs.filling.Filling.new.Given as goal

abbrev pub invariant-loop-leaf : goal.invariant-loop-leaf
invariant-loop-leaf l = map kept_view l.columns.items ≡ nils l.leaf-index
