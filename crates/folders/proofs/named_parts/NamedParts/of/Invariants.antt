use Rattle.std.proofs.Common.{◌≡◌, ℕ, drop}
use Rattle.std.specs.Option.{option_or}
use Rattle.manifest.specs.Groups.{root_of, groups_of_blocks}
use Rattle.folders.specs.Named.{folder_in}
use Rattle.folders.specs.inner.Names.{folder_for, IsFolderOf}
use Rattle.folders.proofs.named_parts.NamedParts.of.Given as goal

-- a number has the folder of the last group that has it, among those of the blocks that remain or else among those before
abbrev pub invariant-loop-block : goal.invariant-loop-block
invariant-loop-block l = let root = root_of l.manifest in record {
  last : IsFolderOf root.keys l.last;
  adds : (n : ℕ) → option_or (folder_for root.keys (groups_of_blocks (drop l.block-index l.block-items)) n) (folder_in l.named n) ≡ folder_for root.keys root.groups n;
}
