-- The rows of a group cut to some of its leaves, by the readers of these leaves' chunks.
use Rattle.std.proofs.Common.{◌≡◌, ℕ, List, length, sym, ap, subst, ◌∙◌, arith, inl, inr}
use Rattle.std.specs.Prelude.{pos, ◌<ℤ◌}
use Rattle.std.proofs.lemmas.List.{length-map}
use Rattle.bits.specs.declared.refusal.Refusal.{Refusal}
use Rattle.bits.specs.declared.refusal.Refusal.TheVariants as refusal
use Rattle.bits.specs.Refusals.{IsFault, HasCause}
use Rattle.schema.specs.Values.{ValueTrees}
use Rattle.schema.specs.Shape.{Fields}
use Rattle.schema.specs.Stripe.{leaves_of, columns}
use Rattle.schema.specs.Law.{IsSchema, ColumnsDetermineRows}
use Rattle.schema.specs.Cutting.{is_among, at_places, cut_to, cut_values, ArePlaces, IsCutFault, CutRowsFit, CutRowsHaveColumns}
use Rattle.metadata.specs.Records.{GroupMeta}
use Rattle.assemble.specs.RowsOf.{StandForRows, HasFault}
use Rattle.assemble.specs.Standing.{IsRefusedFor}
use Rattle.assemble.specs.Columns.{Columns}
use Rattle.assemble.proofs.WholeColumns.{only_faults}
use Rattle.row_group.specs.declared.chunk_reader.ChunkReader.{ChunkReader}
use Rattle.row_group.specs.Greatest.{most_rows}
use Rattle.row_group.specs.Chunks.{AreChunks}
use Rattle.row_group.specs.Limits.{IsOfChunks}
use Rattle.row_group.specs.Wanted.{CutGroupMeans, IsCutGroupOver}
use Rattle.row_group.specs.Laws.{FilesHoldOneColumn, CutGroupsHaveCutRows}
use Rattle.row_group.specs.Left.{chunk_stands}
use Rattle.row_group.specs.Causes.{reader_cause}
use Rattle.row_group.specs.inner.Readers.{AreReaders, IsSound, AreSound, refusal_kept}
use Rattle.row_group.proofs.OneMeaning.{one_columns}
use Rattle.row_group.proofs.InOrder.{as_many, sound_chunks}
use Rattle.row_group.proofs.GroupRows.{readers_sound, sound_stand, sound_others}
use Rattle.row_group.proofs.WantedChunks.{wanted_at, wanted_chunks}

-- ---- a group that has rows has them cut

pub cut_means : CutRowsFit → CutRowsHaveColumns → CutGroupsHaveCutRows
cut_means fit have front places fs g rows there h = record {
  places_are = there;
  count = h.count ∙ ap pos (sym (length-map rows (cut_values (is_among places) 0 fs)));
  fit = fit places fs rows h.fit;
  chunks = record {
    as_many = as_many front g.columns (leaves_of fs) (columns fs rows) h.chunks;
    hold = subst (AreChunks front (at_places places g.columns) (at_places places (leaves_of fs))) (sym (have places fs rows))
        (wanted_chunks front (is_among places) 0 g.columns (leaves_of fs) (columns fs rows) h.chunks);
  };
}

-- ---- the rows that the readers of the wanted chunks stand for

-- a group, some of its leaves, and a reader for the chunk of each of them
pub record AreWantedReaders (front : List ℕ) (places : List ℕ) (fs : Fields) (g : GroupMeta) (rs : List ChunkReader) : Type 0 where
  pub places_are : ArePlaces fs places
  pub as_many : length g.columns ≡ length (leaves_of fs)
  pub readers : AreReaders front (at_places places g.columns) (at_places places (leaves_of fs)) rs

pub rows_sound : (front places : List ℕ) (fs : Fields) (g : GroupMeta) (rs : List ChunkReader) (rows : List ValueTrees) → AreWantedReaders front places fs g rs → StandForRows chunk_stands rs (cut_to places fs) rows
    → AreSound front (at_places places g.columns) (at_places places (leaves_of fs)) (columns (cut_to places fs) rows)
rows_sound front places fs g rs rows r s = readers_sound front (at_places places g.columns) (at_places places (leaves_of fs)) rs (columns (cut_to places fs) rows) r.readers s.stand

pub rows_are : (front places : List ℕ) (fs : Fields) (g : GroupMeta) (n : ℕ) (rs : List ChunkReader) (rows : List ValueTrees) → AreWantedReaders front places fs g rs → StandForRows chunk_stands rs (cut_to places fs) rows
    → g.num_rows ≡ pos n → length rows ≡ n → CutGroupMeans front places fs g rows
rows_are front places fs g n rs rows r s number size = record {
  places_are = r.places_are;
  count = number ∙ ap pos (sym size);
  fit = s.fit;
  chunks = record {
    as_many = r.as_many;
    hold = sound_chunks front (at_places places g.columns) (at_places places (leaves_of fs)) (columns (cut_to places fs) rows) (rows_sound front places fs g rs rows r s);
  };
}

-- others that the group has are the same rows
pub no_others : FilesHoldOneColumn → ColumnsDetermineRows → (front places : List ℕ) (fs : Fields) (g : GroupMeta) (rs : List ChunkReader) (rows others : List ValueTrees) → IsSchema (cut_to places fs) → AreWantedReaders front places fs g rs
    → StandForRows chunk_stands rs (cut_to places fs) rows → CutGroupMeans front places fs g others → others ≡ rows
no_others law determine front places fs g rs rows others schema r s h =
    let cs = at_places places g.columns in
    let ls = at_places places (leaves_of fs) in
    let cut = cut_to places fs in
    determine cut others rows schema h.fit s.fit
    (one_columns law front cs ls (columns cut others) (columns cut rows) h.chunks.hold (sound_chunks front cs ls (columns cut rows) (rows_sound front places fs g rs rows r s)))

-- none of the wanted chunks is over a limit
pub cut_not_over : (front places : List ℕ) (fs : Fields) (g : GroupMeta) (cols : Columns) → (most_rows <ℤ g.num_rows → ⊥) → AreSound front (at_places places g.columns) (at_places places (leaves_of fs)) cols
    → IsCutGroupOver front places fs g → ⊥
cut_not_over front places fs g cols few sound (inl many) = few many
cut_not_over front places fs g cols few sound (inr over) =
    let k = over.column.k in
    let s = wanted_at (IsSound front) (is_among places) g.columns (leaves_of fs) 0 k k over.column.chunk over.column.leaf cols sound over.column.of_group over.column.of_schema (omega arith) over.wanted in
    s.1.1 over.column.is

-- ---- or they are refused

pub no_cut_rows : (front places : List ℕ) (fs : Fields) (g : GroupMeta) (old new : List ChunkReader) (cols : Columns) (e : Refusal) → AreWantedReaders front places fs g old
    → AreSound front (at_places places g.columns) (at_places places (leaves_of fs)) cols → IsRefusedFor chunk_stands refusal_kept reader_cause old new (HasFault (cut_to places fs)) e → IsFault e
    → (rows : List ValueTrees) → CutGroupMeans front places fs g rows → ⊥
no_cut_rows front places fs g old new cols e r sound refused fault rows h =
    let cs = at_places places g.columns in
    let ls = at_places places (leaves_of fs) in
    let cut = cut_to places fs in
    only_faults chunk_stands refusal_kept reader_cause old new cut e refused fault rows (record {
      fit = h.fit;
      stand = sound_stand front cs ls old (columns cut rows) r.readers (sound_others front cs ls cols (columns cut rows) sound h.chunks.hold);
    })

-- ---- at the schema that was cut

pub stand_at : {gs hs : Fields} {xs ys : List ChunkReader} (rows : List ValueTrees) → xs ≡ ys → gs ≡ hs → StandForRows chunk_stands xs gs rows → StandForRows chunk_stands ys hs rows
stand_at {gs} {hs} {xs} {ys} rows e f s = subst (λ (t : Fields). StandForRows chunk_stands ys t rows) f (subst (λ (t : List ChunkReader). StandForRows chunk_stands t gs rows) e s)

pub refused_at : {gs hs : Fields} {xs ys : List ChunkReader} (new : List ChunkReader) (e : Refusal) → xs ≡ ys → gs ≡ hs → IsRefusedFor chunk_stands refusal_kept reader_cause xs new (HasFault gs) e
    → IsRefusedFor chunk_stands refusal_kept reader_cause ys new (HasFault hs) e
refused_at {gs} {hs} {xs} {ys} new e p q s =
    subst (λ (t : Fields). IsRefusedFor chunk_stands refusal_kept reader_cause ys new (HasFault t) e) q (subst (λ (t : List ChunkReader). IsRefusedFor chunk_stands refusal_kept reader_cause t new (HasFault gs) e) p s)

pub cut_which : (places : List ℕ) (fs : Fields) (e : Refusal) → IsCutFault places fs e → HasCause IsOfChunks e
cut_which places fs refusal.Schema h = tt
cut_which places fs refusal.Memory h = tt
cut_which places fs _ h = absurd h
