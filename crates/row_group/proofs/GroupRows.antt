-- The rows of a group, by the readers of its chunks.
use Rattle.std.proofs.Common.{◌≡◌, ℕ, ◌<◌, List, [], ◌∷◌, length, refl, sym, ap, subst, ◌∙◌, arith, inl, inr}
use Rattle.std.specs.Prelude.{pos, ◌<ℤ◌}
use Rattle.bits.specs.declared.refusal.Refusal.{Refusal}
use Rattle.bits.specs.declared.refusal.Refusal.TheVariants as refusal
use Rattle.bits.specs.Refusals.{IsFault, HasCause}
use Rattle.schema.specs.Values.{ValueTrees}
use Rattle.schema.specs.Shape.{Fields}
use Rattle.schema.specs.Stripe.{Leaf, leaves_of, columns}
use Rattle.schema.specs.Law.{IsSchema, ColumnsDetermineRows}
use Rattle.metadata.specs.Records.{ChunkMeta, GroupMeta}
use Rattle.assemble.specs.Columns.{Columns, Tells}
use Rattle.assemble.specs.Standing.{AllStand, IsRefusedFor}
use Rattle.assemble.specs.RowsOf.{StandForRows, HasFault, IsNextRow}
use Rattle.assemble.proofs.WholeColumns.{only_faults}
use Rattle.row_group.specs.declared.chunk_reader.ChunkReader.{ChunkReader}
use Rattle.row_group.specs.Chunks.{AreChunks, GroupMeans}
use Rattle.row_group.specs.Greatest.{most_rows}
use Rattle.row_group.specs.Limits.{IsGroupOver, many_rows, large_chunk, IsOfChunks}
use Rattle.row_group.specs.Laws.{FilesHoldOneColumn}
use Rattle.row_group.specs.Left.{chunk_stands}
use Rattle.row_group.specs.Causes.{reader_cause}
use Rattle.row_group.specs.inner.Readers.{AreReaders, AreSound, HasRows, AreRowsOfGroup, CountsRows, refusal_kept}
use Rattle.row_group.proofs.OneMeaning.{one_columns}
use Rattle.row_group.proofs.InOrder.{sound_chunks, no_column_over}
use Rattle.row_group.proofs.FirstRow.{same_first}

-- ---- readers stand for what their chunks hold

pub readers_sound : (front : List ℕ) (cs : List ChunkMeta) (ls : List Leaf) (rs : List ChunkReader) (cols : Columns) → AreReaders front cs ls rs → AllStand chunk_stands rs cols → AreSound front cs ls cols
readers_sound front [] [] [] [] h s = tt
readers_sound front [] [] [] (es ∷ cols) h s = absurd s
readers_sound front [] [] (r ∷ rs) cols h s = absurd h
readers_sound front [] (l ∷ ls) rs cols h s = absurd h
readers_sound front (c ∷ cs) [] rs cols h s = absurd h
readers_sound front (c ∷ cs) (l ∷ ls) [] cols h s = absurd h
readers_sound front (c ∷ cs) (l ∷ ls) (r ∷ rs) [] h s = absurd s
readers_sound front (c ∷ cs) (l ∷ ls) (r ∷ rs) (es ∷ cols) h s = ((h.0.means es s.0, h.0.short es s.0), readers_sound front cs ls rs cols h.1 s.1)

pub sound_stand : (front : List ℕ) (cs : List ChunkMeta) (ls : List Leaf) (rs : List ChunkReader) (cols : Columns) → AreReaders front cs ls rs → AreSound front cs ls cols → AllStand chunk_stands rs cols
sound_stand front [] [] [] [] h s = tt
sound_stand front [] [] [] (es ∷ cols) h s = absurd s
sound_stand front [] [] (r ∷ rs) cols h s = absurd h
sound_stand front [] (l ∷ ls) rs cols h s = absurd h
sound_stand front (c ∷ cs) [] rs cols h s = absurd h
sound_stand front (c ∷ cs) (l ∷ ls) [] cols h s = absurd h
sound_stand front (c ∷ cs) (l ∷ ls) (r ∷ rs) [] h s = absurd s
sound_stand front (c ∷ cs) (l ∷ ls) (r ∷ rs) (es ∷ cols) h s = (h.0.stands es s.0.0 s.0.1, sound_stand front cs ls rs cols h.1 s.1)

-- whatever columns the chunks hold, none of them is over a limit
pub sound_others : (front : List ℕ) (cs : List ChunkMeta) (ls : List Leaf) (cols others : Columns) → AreSound front cs ls cols → AreChunks front cs ls others → AreSound front cs ls others
sound_others front [] [] cols [] h k = tt
sound_others front [] [] cols (es ∷ others) h k = absurd k
sound_others front [] (l ∷ ls) cols others h k = absurd k
sound_others front (c ∷ cs) [] cols others h k = absurd k
sound_others front (c ∷ cs) (l ∷ ls) [] others h k = absurd h
sound_others front (c ∷ cs) (l ∷ ls) (fs ∷ cols) [] h k = absurd k
sound_others front (c ∷ cs) (l ∷ ls) (fs ∷ cols) (es ∷ others) h k = ((k.0, h.0.1), sound_others front cs ls cols others h.1 k.1)

-- ---- the group is accepted

pub counted_rows : (front : List ℕ) (fs : Fields) (g : GroupMeta) (rs : List ChunkReader) (n : ℕ) → AreReaders front g.columns (leaves_of fs) rs → CountsRows fs rs n → HasRows front fs g n
counted_rows front fs g rs n readers w = record { rows = w.0; count = w.1.0; fit = w.1.1.fit; sound = readers_sound front g.columns (leaves_of fs) rs (columns fs w.0) readers w.1.1.stand }

-- other rows with these columns are as many
pub same_count : FilesHoldOneColumn → ColumnsDetermineRows → (front : List ℕ) (fs : Fields) (g : GroupMeta) (n m : ℕ) → IsSchema fs → HasRows front fs g n → (rows : List ValueTrees) → AreRowsOfGroup front fs g m rows → n ≡ m
same_count law determine front fs g n m schema h rows k =
    let cols = one_columns law front g.columns (leaves_of fs) (columns fs h.rows) (columns fs rows) (sound_chunks front g.columns (leaves_of fs) (columns fs h.rows) h.sound) k.chunks in
    sym h.count ∙ ap (λ (t : List ValueTrees). length t) (determine fs h.rows rows schema h.fit k.fit cols) ∙ k.count

-- ---- or refused

pub no_rows : (front : List ℕ) (fs : Fields) (g : GroupMeta) (n : ℕ) (old new : List ChunkReader) (cols : Columns) (e : Refusal) → AreReaders front g.columns (leaves_of fs) old → AreSound front g.columns (leaves_of fs) cols
    → IsRefusedFor chunk_stands refusal_kept reader_cause old new (HasFault fs) e → IsFault e → (rows : List ValueTrees) → AreRowsOfGroup front fs g n rows → ⊥
no_rows front fs g n old new cols e readers sound refused fault rows k =
    only_faults chunk_stands refusal_kept reader_cause old new fs e refused fault rows (record {
      fit = k.fit;
      stand = sound_stand front g.columns (leaves_of fs) old (columns fs rows) readers (sound_others front g.columns (leaves_of fs) cols (columns fs rows) sound k.chunks);
    })

pub tells : (front : List ℕ) (fs : Fields) (cs : List ChunkMeta) (ls : List Leaf) (old new : List ChunkReader) (cols : Columns) (e : Refusal) → AreReaders front cs ls old → AreSound front cs ls cols
    → IsRefusedFor chunk_stands refusal_kept reader_cause old new (HasFault fs) e → Tells (Unit {0}) (Unit {0}) e
tells front fs cs ls old new cols e readers sound (inl h) = absurd (h.1 cols (sound_stand front cs ls old cols readers sound))
tells front fs cs ls old new cols e readers sound (inr h) = h.1.0

pub tells_which : (e : Refusal) → Tells (Unit {0}) (Unit {0}) e → HasCause IsOfChunks e
tells_which refusal.Levels h = tt
tells_which refusal.Value h = tt
tells_which refusal.Memory h = tt
tells_which _ h = absurd h

pub tells_no_limit : (e : Refusal) → Tells (Unit {0}) (Unit {0}) e → e ≡ refusal.Limit → ⊥
tells_no_limit e h is = subst (Tells (Unit {0}) (Unit {0})) is h

pub tells_no_codec : (e : Refusal) → Tells (Unit {0}) (Unit {0}) e → e ≡ refusal.Codec → ⊥
tells_no_codec e h is = subst (Tells (Unit {0}) (Unit {0})) is h

-- ---- what a group means

pub means : (front : List ℕ) (fs : Fields) (g : GroupMeta) (n : ℕ) → g.num_rows ≡ pos n → (h : HasRows front fs g n) → GroupMeans front fs g h.rows
means front fs g n number h = record { count = number ∙ ap pos (sym h.count); fit = h.fit; chunks = sound_chunks front g.columns (leaves_of fs) (columns fs h.rows) h.sound }

counted : (g : GroupMeta) (n m : ℕ) → g.num_rows ≡ pos n → g.num_rows ≡ pos m → m ≡ n
counted g n m a b = cc

pub rows_of_group : (front : List ℕ) (fs : Fields) (g : GroupMeta) (n : ℕ) → g.num_rows ≡ pos n → (rows : List ValueTrees) → GroupMeans front fs g rows → AreRowsOfGroup front fs g n rows
rows_of_group front fs g n number rows h = record { count = counted g n (length rows) number h.count; fit = h.fit; chunks = h.chunks }

pub stand_for : (front : List ℕ) (fs : Fields) (g : GroupMeta) (n : ℕ) (rs : List ChunkReader) → AreReaders front g.columns (leaves_of fs) rs → (h : HasRows front fs g n) → (rows : List ValueTrees) → AreRowsOfGroup front fs g n rows → StandForRows chunk_stands rs fs rows
stand_for front fs g n rs readers h rows k = record {
  fit = k.fit;
  stand = sound_stand front g.columns (leaves_of fs) rs (columns fs rows) readers (sound_others front g.columns (leaves_of fs) (columns fs h.rows) (columns fs rows) h.sound k.chunks);
}

pub of_readers : (front : List ℕ) (fs : Fields) (g : GroupMeta) (n : ℕ) (rs : List ChunkReader) → AreReaders front g.columns (leaves_of fs) rs → g.num_rows ≡ pos n → (rows : List ValueTrees) → length rows ≡ n → StandForRows chunk_stands rs fs rows → GroupMeans front fs g rows
of_readers front fs g n rs readers number rows size s = record {
  count = number ∙ ap pos (sym size);
  fit = s.fit;
  chunks = sound_chunks front g.columns (leaves_of fs) (columns fs rows) (readers_sound front g.columns (leaves_of fs) rs (columns fs rows) readers s.stand);
}

pub not_over : (front : List ℕ) (fs : Fields) (g : GroupMeta) (n : ℕ) → (most_rows <ℤ g.num_rows → ⊥) → HasRows front fs g n → IsGroupOver front fs g → ⊥
not_over front fs g n few h (many_rows many) = few many
not_over front fs g n few h (large_chunk over) = no_column_over front fs g (columns fs h.rows) h.sound over

-- ---- a row is taken

pub row_taken : (fs : Fields) → IsSchema fs → (old new : List ChunkReader) (row : ValueTrees) (rows : List ValueTrees) → 0 < length rows → IsNextRow chunk_stands fs old new row → StandForRows chunk_stands old fs rows
    → (rest : List ValueTrees) × (rows ≡ row ∷ rest) × StandForRows chunk_stands new fs rest
row_taken fs schema old new row [] some next s = absurd (omega (arith, some))
row_taken fs schema old new row (r ∷ rs) some next s =
    let w = next.1.0 (columns fs (r ∷ rs)) s.stand in
    let a = w.1.1.alone (r ∷ rs) s.fit refl in
    let e = same_first fs schema row r rs a.0 w.0 next.0 s.fit a.1.0 w.1.1.front a.1.1 in
    (rs, ap (λ (v : ValueTrees). v ∷ rs) (sym e.0), record { fit = s.fit.1; stand = subst (AllStand chunk_stands new) e.1 w.1.0 })
