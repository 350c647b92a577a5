use Rattle.std.proofs.Common.{◌≡◌, ℕ, drop}
use Rattle.std.specs.Option.{option_or}
use Rattle.schema.specs.Keys.{key_columns_view}
use Rattle.manifest.specs.Groups.{handles_view}
use Rattle.folders.specs.Named.{folder_in}
use Rattle.folders.specs.inner.Names.{folder_for, IsFolderOf}
use Rattle.folders.proofs.named_parts.NamedParts.add_groups.Given as goal

-- a number has the folder of the last group that has it, among those that remain or else among those before
abbrev pub invariant-loop-group : goal.invariant-loop-group
invariant-loop-group l = let keys = key_columns_view l.columns in record {
  last : IsFolderOf keys l.last;
  adds : (n : ℕ) → option_or (folder_for keys (handles_view (drop l.group-index l.groups)) n) (folder_in l.self n) ≡ option_or (folder_for keys (handles_view l.groups) n) (folder_in l.fn.self n);
}
