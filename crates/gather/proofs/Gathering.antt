-- Rows that are gathered as they are shown.
use Rattle.std.proofs.Common.{◌≡◌, true, List, [], ◌∷◌, ◌++◌, length, refl, ap, sym, subst, ◌∙◌, IsTrue}
use Rattle.lists.proofs.Lists.{all_append as all_joined}
use Rattle.schema.specs.Shape.{Fields}
use Rattle.schema.specs.Fits.{fits_each}
use Rattle.schema.specs.Values.{ValueTrees}
use Rattle.schema.specs.Keys.{KeyColumn}
use Rattle.assemble.specs.Sinks.{Token, tokens_each, Adds}
use Rattle.shred.specs.inner.Opening.{schema_token, rows_said}
use Rattle.shred.proofs.Openings.{one_schema, rows_back}
use Rattle.gather.specs.declared.cut_row.CutRow.{CutRow}
use Rattle.gather.specs.declared.gathered.Gathered.{Gathered}
use Rattle.gather.specs.KeyBuffers.{HaveTaken}
use Rattle.gather.specs.CutRows.{CutShown, part_count}
use Rattle.gather.specs.GatheredRows.{schema_of, columns_of, Base, base_of, IsGathered, Holds, holds, gathered_shows, BeginsRow, ShowsRow, shows_whole, goes_back}

-- the base with another row that is shown
abbrev pub base_at : Gathered → CutRow → Base
base_at g row = record { schema = schema_of g; columns = columns_of g; buffers = g.buffers; parts = part_count row }

pub same_base : (g : Gathered) (row : CutRow) → part_count row ≡ part_count g.row → base_at g row ≡ base_of g
same_base g row parts = λ i. record { schema = schema_of g; columns = columns_of g; buffers = g.buffers; parts = parts i }

-- one token more
pub gathered_more : (old new : Gathered) (t : Token) → base_of new ≡ base_of old → Adds (CutShown (columns_of old) old.row) (CutShown (columns_of old) new.row) (t ∷ []) → Adds (gathered_shows old) (gathered_shows new) (t ∷ [])
gathered_more old new t same adds [] h = absurd h
gathered_more old new t same adds (x ∷ []) h = absurd h
gathered_more old new t same adds (x ∷ y ∷ ts) h = (
  h.0 ∙ ap schema_token (sym (ap (λ (b : Base). b.schema) same)),
  record {
    gathered = subst (λ (b : Base). IsGathered b (rows_said y)) (sym same) h.1.gathered;
    row = subst (λ (cs : List KeyColumn). CutShown cs new.row (ts ++ t ∷ [])) (sym (ap (λ (b : Base). b.columns) same)) (adds ts h.1.row);
  },
)

-- a row begins
pub whole_begins : (g : Gathered) (ts : List Token) → shows_whole g ts → shows_whole g ts × goes_back (base_of g) ts
whole_begins g [] h = absurd h
whole_begins g (t ∷ []) h = absurd h
whole_begins g (t ∷ u ∷ []) h = (h, (h.0, h.1.gathered))
whole_begins g (t ∷ u ∷ w ∷ ts) h = absurd h

pub begins : (g : Gathered) (rows : List ValueTrees) → holds g rows → BeginsRow g (schema_of g) rows
begins g rows held = (refl, subst (λ (rs : List ValueTrees). Holds g rs []) (sym (rows_back rows)) held)

-- a row is dropped
pub dropped : (old new : Gathered) (rows : List ValueTrees) → base_of new ≡ base_of old → ((columns : List KeyColumn) → part_count old.row ≡ length columns → CutShown columns new.row []) → IsGathered (base_of old) rows → holds new rows
dropped old new rows same restarts below = record {
  gathered = subst (λ (b : Base). IsGathered b rows) (sym same) below;
  row = subst (λ (cs : List KeyColumn). CutShown cs new.row []) (sym (ap (λ (b : Base). b.columns) same)) (restarts (columns_of old) below.parts);
}

pub whole_dropped : (old new : Gathered) → base_of new ≡ base_of old → ((columns : List KeyColumn) → part_count old.row ≡ length columns → CutShown columns new.row [])
    → (ts : List Token) → goes_back (base_of old) ts → shows_whole new ts × gathered_shows new ts
whole_dropped old new same restarts [] h = absurd h
whole_dropped old new same restarts (t ∷ []) h = absurd h
whole_dropped old new same restarts (t ∷ u ∷ []) h =
    let is = h.0 ∙ ap schema_token (sym (ap (λ (b : Base). b.schema) same)) in
    let held = dropped old new (rows_said u) same restarts h.1 in
    ((is, held), (is, held))
whole_dropped old new same restarts (t ∷ u ∷ w ∷ ts) h = absurd h

-- a row that was shown, where it is read
pub shown_row : (g : Gathered) (fs : Fields) (rows : List ValueTrees) (values : ValueTrees) → ShowsRow g fs rows values → Holds g rows (tokens_each values)
shown_row g fs rows values h = subst (λ (rs : List ValueTrees). Holds g rs (tokens_each values)) (rows_back rows) h.1

pub shown_schema : (g : Gathered) (fs : Fields) (rows : List ValueTrees) (row : ValueTrees) → ShowsRow g fs rows row → fs ≡ schema_of g
shown_schema g fs rows row h = one_schema fs (schema_of g) h.0

-- one row more
pub row_gathered : (old new : Gathered) (rows : List ValueTrees) (values : ValueTrees) → schema_of new ≡ schema_of old → columns_of new ≡ columns_of old → new.buffers.stored ≡ old.buffers.stored → part_count new.row ≡ part_count old.row
    → fits_each (schema_of old) values ≡ true → Holds old rows (tokens_each values) → HaveTaken (columns_of old) new.buffers (rows ++ values ∷ []) → ((columns : List KeyColumn) → part_count old.row ≡ length columns → CutShown columns new.row [])
    → holds new (rows ++ values ∷ [])
row_gathered old new rows values schema columns stored parts fit so buffers restarts =
    let was = so.gathered in
    record {
      gathered = record {
        table = rw (schema, columns, stored) was.table;
        fit = rw schema (all_joined (λ (row : ValueTrees). IsTrue (fits_each (schema_of old) row)) rows (values ∷ []) was.fit (fit, tt));
        buffers = rw columns buffers;
        parts = rw columns (parts ∙ was.parts);
      };
      row = rw columns (restarts (columns_of old) was.parts);
    }
