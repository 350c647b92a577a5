-- How many entries the chunks of a group have, by their records.
use Rattle.std.specs.Prelude.{◌≡◌, ℕ, pos, List}
use Rattle.std.specs.List.{AllByRecursion}
use Rattle.metadata.specs.Records.{ChunkMeta}

-- each chunk has n entries
abbrev pub HaveCounts : ℕ → List ChunkMeta → Type 0
HaveCounts n cs = AllByRecursion (λ (c : ChunkMeta). c.meta_data.num_values ≡ pos n) cs
