-- Rows that are shown to a buffer, one after another.
use Rattle.std.proofs.Common.{◌≡◌, ◌∙◌, true, List, [], ◌∷◌, ◌++◌, Ok, refl, sym, ap, subst, append_assoc}
use Rattle.std.specs.Prelude.{IsTrue}
use Rattle.std.proofs.lemmas.List.{append-nil}
use Rattle.schema.specs.Values.{ValueTrees}
use Rattle.schema.specs.Shape.{Fields}
use Rattle.schema.specs.Fits.{fits_each, RowsFit}
use Rattle.assemble.specs.RowSources.{TakesRowTo}
use Rattle.shred.specs.declared.row_buffer.RowBuffer.{RowBuffer}
use Rattle.shred.specs.Buffer.{schema_of, Holds, holds, buffer_shows, BeginsRow, ShowsRow}
use Rattle.shred.specs.inner.Opening.{schema_token, rows_token}
use Rattle.shred.proofs.Openings.{rows_back}
use Rattle.table_commits.specs.Showing.{AddsNext, AreAdded}

-- a buffer that holds rows was shown nothing of the next one
begins : (buffer : RowBuffer) (rows : List ValueTrees) → holds buffer rows → BeginsRow buffer (schema_of buffer) rows
begins buffer rows held = (refl, subst (λ (rs : List ValueTrees). Holds buffer rs []) (sym (rows_back rows)) held)

-- a row that was shown and ended
pub next_added : (S T : List ValueTrees → Type 0) (old shown new : RowBuffer) → TakesRowTo S T (buffer_shows old) (buffer_shows shown) (Ok true)
    → ((fs : Fields) (rows : List ValueTrees) (values : ValueTrees) → ShowsRow shown fs rows values → fits_each fs values ≡ true → holds new (rows ++ values ∷ [])) → AddsNext S T old new (Ok true)
next_added S T old shown new takes ends = λ left stood.
    let t = takes left stood in
    record {
      first = t.first;
      rest = t.rest;
      split = t.split;
      stands = t.stands;
      held = λ taken held fits. ends (schema_of old) taken t.first (t.shown (schema_token (schema_of old) ∷ rows_token taken ∷ []) (begins old taken held)) fits;
    }

-- none is added yet
pub none_added : (S : List ValueTrees → Type 0) (buffer : RowBuffer) (held rows : List ValueTrees) → S rows → holds buffer held → AreAdded S buffer held rows
none_added S buffer held rows stood holds_held = record { taken = []; left = rows; split = refl; stands = stood; holds_now = subst (holds buffer) (sym (append-nil held)) holds_held }

pub first_fits : (fs : Fields) (taken rest : List ValueTrees) (first : ValueTrees) → RowsFit fs (taken ++ first ∷ rest) → IsTrue (fits_each fs first)
first_fits fs [] rest first fit = fit.0
first_fits fs (row ∷ taken) rest first fit = first_fits fs taken rest first fit.1

-- one more is added
pub one_added : (S T : List ValueTrees → Type 0) (old new : RowBuffer) (held rows : List ValueTrees) → RowsFit (schema_of old) rows → AddsNext S T old new (Ok true) → AreAdded S old held rows → AreAdded T new held rows
one_added S T old new held rows fit next are =
    let n = next are.left are.stands in
    let split : rows ≡ are.taken ++ n.first ∷ n.rest = are.split ∙ ap (λ (rs : List ValueTrees). are.taken ++ rs) n.split in
    record {
      taken = are.taken ++ n.first ∷ [];
      left = n.rest;
      split = split ∙ sym (append_assoc are.taken (n.first ∷ []) n.rest);
      stands = n.stands;
      holds_now = subst (holds new) (append_assoc held are.taken (n.first ∷ []))
          (n.held (held ++ are.taken) are.holds_now (first_fits (schema_of old) are.taken n.rest n.first (subst (RowsFit (schema_of old)) split fit)));
    }

-- all are added
pub all_added : (S : List ValueTrees → Type 0) (buffer : RowBuffer) (held rows : List ValueTrees) (are : AreAdded S buffer held rows) → are.left ≡ [] → holds buffer (held ++ rows)
all_added S buffer held rows are none =
    subst (λ (rs : List ValueTrees). holds buffer (held ++ rs)) (sym (are.split ∙ ap (λ (rs : List ValueTrees). are.taken ++ rs) none ∙ append-nil are.taken)) are.holds_now
