-- What a writer's bytes are: parquet-format, Encodings.md, "Delta-length byte array" and "Delta Strings". The numbers as `Written`
-- says, and of the prefixes that it leaves open the longest.
use Rattle.std.specs.Prelude.{◌≡◌, ℕ, ◌+◌, ◌*◌, List, [], ◌++◌, length, drop, map, pos}
use Rattle.std.specs.List.{concat}
use Rattle.std.specs.Int.{w32}
use Rattle.bits.specs.Codec.{Appends}
use Rattle.schema.specs.Values.{ValueTree}
use Rattle.plain.specs.Plain.{text_size}
use Rattle.delta.specs.Written.{IsWrittenDelta}
use Rattle.delta.specs.ByteDeltas.{sizes, longest_prefixes, shortest_suffixes, StandForBytes}

-- byte values by their lengths, as a writer writes them
pub record IsWrittenLengths (bytes : List ℕ) (texts : List (List ℕ)) (used : ℕ) : Type 0 where
  pub at : ℕ
  pub rest : List ℕ
  pub lengths : IsWrittenDelta w32 (sizes texts) bytes at
  pub joined : drop at bytes ≡ concat texts ++ rest
  pub ends : used ≡ at + length (concat texts)

-- byte values by their prefixes, as a writer writes them
pub record IsWrittenPrefixes (bytes : List ℕ) (texts : List (List ℕ)) (used : ℕ) : Type 0 where
  pub at : ℕ
  pub rest : ℕ
  pub prefixes : IsWrittenDelta w32 (map pos (longest_prefixes [] texts)) bytes at
  pub suffixes : IsWrittenLengths (drop at bytes) (shortest_suffixes [] texts) rest
  pub ends : used ≡ at + rest

-- values are written at the end by their lengths, as a writer writes them
abbrev pub AppendsWrittenLengths : List ValueTree → List ℕ → List ℕ → Type 0
AppendsWrittenLengths values old new = Appends (λ bytes. StandForBytes (IsWrittenLengths bytes) values) (170 + 5 * length values + text_size values) old new

-- values are written at the end by their prefixes, as a writer writes them
abbrev pub AppendsWrittenPrefixes : List ValueTree → List ℕ → List ℕ → Type 0
AppendsWrittenPrefixes values old new = Appends (λ bytes. StandForBytes (IsWrittenPrefixes bytes) values) (340 + 10 * length values + text_size values) old new
