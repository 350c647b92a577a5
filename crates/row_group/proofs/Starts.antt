-- A chunk of a file, where it is known where the chunk starts.
use Rattle.std.proofs.Common.{◌≡◌, ℕ, List, drop, sym, ap, subst, ◌∙◌}
use Rattle.std.specs.Prelude.{◌↔◌}
use Rattle.schema.specs.Stripe.{Leaf, Entry}
use Rattle.metadata.specs.Records.{ColumnMeta}
use Rattle.row_group.specs.declared.chunk_reader.ChunkReader.{ChunkReader}
use Rattle.row_group.specs.Chunks.{ChunkMeans, StartsAt, ColumnMeans}
use Rattle.row_group.specs.Limits.{IsChunkOver, BeginsWith}
use Rattle.row_group.specs.Left.{ReaderLeft, ChunkStands, pages_view, reader_view, chunk_stands}
use Rattle.row_group.specs.inner.Pages.{IsAccepted}
use Rattle.row_group.specs.inner.Readers.{IsReaderOf, IsSound}

-- the chunk starts here and nowhere else, where these bytes begin
pub record IsStart (front : List ℕ) (m : ColumnMeta) (start : ℕ) (bytes : List ℕ) : Type 0 where
  pub starts : StartsAt m start
  pub alone : (other : ℕ) → StartsAt m other → other ≡ start
  pub here : bytes ≡ drop start front

pub at_start : (front : List ℕ) (m : ColumnMeta) (leaf : Leaf) (start : ℕ) (bytes : List ℕ) → IsStart front m start bytes → (es : List Entry) → ColumnMeans front m leaf es → (used : ℕ) × ChunkMeans m leaf bytes es used
at_start front m leaf start bytes i es c = (c.used, subst (λ (t : List ℕ). ChunkMeans m leaf t es c.used) (ap (λ (n : ℕ). drop n front) (i.alone c.start c.starts) ∙ sym i.here) c.means)

pub over_here : (front : List ℕ) (m : ColumnMeta) (leaf : Leaf) (start : ℕ) (bytes : List ℕ) → IsStart front m start bytes → BeginsWith front IsChunkOver m leaf → IsChunkOver m leaf bytes
over_here front m leaf start bytes i over = subst (λ (t : List ℕ). IsChunkOver m leaf t) (ap (λ (n : ℕ). drop n front) (i.alone over.0 over.1) ∙ sym i.here) over.2

pub over_there : (front : List ℕ) (m : ColumnMeta) (leaf : Leaf) (start : ℕ) (bytes : List ℕ) → IsStart front m start bytes → IsChunkOver m leaf bytes → BeginsWith front IsChunkOver m leaf
over_there front m leaf start bytes i over = (start, i.starts, subst (λ (t : List ℕ). IsChunkOver m leaf t) i.here over)

pub column_there : (front : List ℕ) (m : ColumnMeta) (leaf : Leaf) (start : ℕ) (bytes : List ℕ) → IsStart front m start bytes → (es : List Entry) (used : ℕ) → ChunkMeans m leaf bytes es used → ColumnMeans front m leaf es
column_there front m leaf start bytes i es used h = record { start = start; used = used; starts = i.starts; means = subst (λ (t : List ℕ). ChunkMeans m leaf t es used) i.here h }

pub reader_is : (front : List ℕ) (m : ColumnMeta) (leaf : Leaf) (start : ℕ) (bytes : List ℕ) (r : ChunkReader) → IsStart front m start bytes
    → ((es : List Entry) → chunk_stands r es ↔ (((used : ℕ) × ChunkMeans m leaf bytes es used) × (IsChunkOver m leaf bytes → ⊥))) → IsReaderOf front m leaf r
reader_is front m leaf start bytes r i h = record {
  means = λ es s. let k = (h es).0 s in column_there front m leaf start bytes i es k.0.0 k.0.1;
  short = λ es s over. ((h es).0 s).1 (over_here front m leaf start bytes i over);
  stands = λ es c short. (h es).1 (at_start front m leaf start bytes i es c, λ over. short (over_there front m leaf start bytes i over));
}

-- a reader of a chunk that was accepted reads pages that were
pub reads_accepted : (front : List ℕ) (m : ColumnMeta) (leaf : Leaf) (r : ChunkReader) → IsReaderOf front m leaf r → (es : List Entry) → IsSound front m leaf es → IsAccepted (pages_view r.pages)
reads_accepted front m leaf r is es sound = let s = is.stands es sound.0 sound.1 in (λ none. none s.rest s.used s.held, s.short)

-- so is one of which the same is left
pub same_reader : (front : List ℕ) (m : ColumnMeta) (leaf : Leaf) (r s : ChunkReader) → reader_view s ≡ reader_view r → IsReaderOf front m leaf r → IsReaderOf front m leaf s
same_reader front m leaf r s same is = record {
  means = λ es h. is.means es (subst (λ (v : ReaderLeft). ChunkStands v es) same h);
  short = λ es h. is.short es (subst (λ (v : ReaderLeft). ChunkStands v es) same h);
  stands = λ es means short. subst (λ (v : ReaderLeft). ChunkStands v es) (sym same) (is.stands es means short);
}
