-- Why a reader of a chunk is refused.
use Rattle.std.specs.Prelude.{◌≡◌, ℕ, List, [], Option, MatchOption, Result, IfErr}
use Rattle.bits.specs.Codec.{NothingStands}
use Rattle.bits.specs.Faults.{refusal_of}
use Rattle.bits.specs.declared.fault.Fault.{Fault}
use Rattle.bits.specs.declared.refusal.Refusal.{Refusal}
use Rattle.bits.specs.declared.refusal.Refusal.TheVariants.{Memory, Limit}
use Rattle.schema.specs.Stripe.{Leaf}
use Rattle.metadata.specs.Records.{ColumnMeta}
use Rattle.pages.specs.Limits.{IsOfPages}
use Rattle.row_group.specs.Chunks.{ChunkMeans}
use Rattle.row_group.specs.Limits.{IsChunkOver}
use Rattle.row_group.specs.Rest.{ChunkLeft, HoldsRest, HasRestOver}
use Rattle.row_group.specs.declared.chunk_reader.ChunkReader.{ChunkReader}
use Rattle.row_group.specs.Left.{ReaderLeft, reader_view}

-- Limit: what is left of the pages goes over a limit; any other refusal but Memory: it holds no entries, whatever the limits
abbrev pub IsCauseIn : ChunkLeft → Refusal → Type 0
IsCauseIn s Memory = Unit {0}
IsCauseIn s Limit = HasRestOver s
IsCauseIn s e = IsOfPages e × NothingStands (HoldsRest s)

-- why a reader may be refused so: by what is left, or since it was refused so before
abbrev pub IsCause : ReaderLeft → Refusal → Type 0
IsCause r e = MatchOption r.fault (IsCauseIn r.pages e) (λ f. refusal_of f ≡ e)

-- why a reader of a chunk may be refused so: by what is left of its pages, or since it was refused so before
abbrev pub reader_cause : ChunkReader → Refusal → Type 0
reader_cause r = IsCause (reader_view r)

-- what is a cause later was one before
abbrev pub CausesStay : ReaderLeft → ReaderLeft → Type 0
CausesStay old new = (e : Refusal) → IsCause new e → IsCause old e

-- what is a cause later was one before, and a refusal has a cause
abbrev pub IsCaused : {X : Type 0} → ReaderLeft → ReaderLeft → Result X Fault → Type 0
IsCaused old new result = CausesStay old new × IfErr result (λ f. IsCause old (refusal_of f))

-- Limit: the chunk goes over a limit; any other refusal but Memory: it holds no entries, whatever the limits
abbrev pub IsChunkCause : ColumnMeta → Leaf → List ℕ → Refusal → Type 0
IsChunkCause m leaf bytes Memory = Unit {0}
IsChunkCause m leaf bytes Limit = IsChunkOver m leaf bytes
IsChunkCause m leaf bytes e = IsOfPages e × NothingStands (ChunkMeans m leaf bytes)
