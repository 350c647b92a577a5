use Rattle.std.proofs.Common.{◌≡◌, ◌++◌, drop}
use Rattle.snapshots.specs.inner.Spells.{others_of_blocks}
use Rattle.snapshots.proofs.others.push_blocks.Given as goal

abbrev pub invariant-loop-block : goal.invariant-loop-block
invariant-loop-block l = others_of_blocks l.out.items ++ others_of_blocks (drop l.block-index l.blocks) ≡ others_of_blocks l.initial.out.items ++ others_of_blocks l.blocks
