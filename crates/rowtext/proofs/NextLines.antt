-- The line of the next row of a source.
use Rattle.std.proofs.Common.{◌≡◌, ℕ, List, [], ◌∷◌, ◌++◌, sym, subst, ◌∙◌}
use Rattle.std.specs.Prelude.{Bool, true, false, IsTrue, Result, Ok, Err}
use Rattle.std.specs.Result.{IsErrAnd}
use Rattle.bits.specs.declared.refusal.Refusal.{Refusal}
use Rattle.bits.specs.declared.refusal.Refusal.TheVariants.{Memory}
use Rattle.schema.specs.Values.{ValueTrees}
use Rattle.schema.specs.Shape.{Fields}
use Rattle.schema.specs.Fits.{fits_each, RowsFit}
use Rattle.assemble.specs.RowSources.{TakesRowTo}
use Rattle.rowtext.specs.declared.row_text.RowText.{RowText}
use Rattle.rowtext.specs.Json.{row_text_as}
use Rattle.rowtext.specs.Rows.{text_shows, BeginsLineAs, ShowsLineAs, AddsNextLine}
use Rattle.rowtext.specs.inner.Opening.{opening_as, lines_token}

-- a row that was shown and ended
pub line_added : (texts : Bool) (fs : Fields) (S T : List ValueTrees → Type 0) (from shown to : RowText) (lines : List ℕ) → BeginsLineAs texts from fs lines → TakesRowTo S T (text_shows from) (text_shows shown) (Ok true)
    → ((values : ValueTrees) → ShowsLineAs texts shown fs lines values → IsTrue (fits_each fs values) → BeginsLineAs texts to fs (lines ++ (row_text_as texts fs values ++ 10 ∷ []))) → AddsNextLine texts fs S T (BeginsLineAs texts to fs) lines (Ok true)
line_added texts fs S T from shown to lines begins takes ended = λ rows s fit.
    let t = takes rows s in
    let shows : ShowsLineAs texts shown fs lines t.first = t.shown (opening_as texts fs ∷ lines_token lines ∷ []) begins in
    let fits : RowsFit fs (t.first ∷ t.rest) = subst (RowsFit fs) t.split fit in
    record { first = t.first; rest = t.rest; split = t.split; stands = t.stands; gathers = ended t.first shows fits.0 }

-- no row was left
pub none_added : (texts : Bool) (fs : Fields) (S T : List ValueTrees → Type 0) (from shown : RowText) (lines : List ℕ) → BeginsLineAs texts from fs lines → shown ≡ from → TakesRowTo S T (text_shows from) (text_shows shown) (Ok false)
    → AddsNextLine texts fs S T (BeginsLineAs texts shown fs) lines (Ok false)
none_added texts fs S T from shown lines begins same takes = λ rows s. let t = takes rows s in (t.0, (t.1, subst (λ (text : RowText). BeginsLineAs texts text fs lines) (sym same) begins))

-- a refusal that is passed on
pub next_refused : (texts : Bool) (fs : Fields) (S T : List ValueTrees → Type 0) (Holds : List ℕ → Type 0) (lines : List ℕ) (r : Result Bool Refusal) (e : Refusal) → IsErrAnd r (λ f. f ≡ e) → ((rows : List ValueTrees) → S rows → e ≡ Memory) → AddsNextLine texts fs S T Holds lines r
next_refused texts fs S T Holds lines (Ok true) e is p = absurd is
next_refused texts fs S T Holds lines (Ok false) e is p = absurd is
next_refused texts fs S T Holds lines (Err f) e is p = λ rows s. is ∙ p rows s
