use Rattle.std.proofs.Common.{◌≡◌, ◌+◌, ◌++◌, drop, length}
use Rattle.manifest.specs.Handles.{groups_of_blocks, starts_of}
use Rattle.manifest.proofs.places.starts_of.Given as goal

abbrev pub invariant-loop-block : goal.invariant-loop-block
invariant-loop-block l = record {
  counted : l.total + length (groups_of_blocks (drop l.block-index l.blocks)) ≡ length (groups_of_blocks l.blocks);
  placed : l.starts.items ++ starts_of l.total (drop l.block-index l.blocks) ≡ starts_of 0 l.blocks;
}
