-- What prints the rows that it is shown.
use Rattle.std.specs.Prelude.{◌≡◌, ℕ, Bool, true, false, List, [], ◌∷◌, ◌++◌, Result, Ok, Err, option_map}
use Rattle.bits.specs.declared.refusal.Refusal.{Refusal}
use Rattle.bits.specs.declared.refusal.Refusal.TheVariants.{Memory}
use Rattle.schema.specs.Values.{ValueTrees}
use Rattle.schema.specs.Shape.{Fields}
use Rattle.schema.specs.Fits.{RowsFit}
use Rattle.assemble.specs.Sinks.{Token, tokens_each}
use Rattle.rowtext.specs.Json.{row_text_as}
use Rattle.rowtext.specs.declared.row_plan.RowPlan.{RowPlan}
use Rattle.rowtext.specs.declared.row_text.RowText.{RowText}
use Rattle.rowtext.specs.inner.Slots.{slots_view, slots_as, order_of, vec_items}
use Rattle.rowtext.specs.inner.Levels.{State, run, root_as, state_of}
use Rattle.rowtext.specs.inner.Opening.{opening_as, lines_token, lines_said}

-- the schema whose rows a plan prints
abbrev pub plan_schema : RowPlan → Fields
plan_schema p = p.schema.now

-- the slots of a plan, and the order of its members, are those of its schema, with texts or without
abbrev pub IsReadyAs : Bool → RowPlan → Type 0
IsReadyAs texts p = (slots_view p.slots.items ≡ slots_as texts p.schema.now) × (option_map vec_items p.order ≡ order_of p.schema.now)

-- the same without texts
abbrev pub IsReady : RowPlan → Type 0
IsReady = IsReadyAs false

-- what is held where these were shown: first the schema, and whether there are texts, then the lines before the row, and then values
abbrev pub shows_from : RowPlan → State → List Token → Type 0
shows_from p s [] = ⊥
shows_from p s (t ∷ []) = ⊥
shows_from p s (t ∷ u ∷ ts) =
    (texts : Bool) × ((t ≡ opening_as texts (plan_schema p)) × (IsReadyAs texts p × (s ≡ run (root_as texts (lines_said u) (plan_schema p)) ts)))

-- what a `RowText` holds is the text of these tokens: first the schema, and whether there are texts, then the lines before the row, and then values
abbrev pub text_shows : RowText → List Token → Type 0
text_shows r ts = shows_from r.plan.now (state_of r) ts

-- a `RowText` prints rows of the schema, with texts or without, holds these lines of earlier ones, and was shown nothing yet of the next one
abbrev pub BeginsLineAs : Bool → RowText → Fields → List ℕ → Type 0
BeginsLineAs texts r fs lines = text_shows r (opening_as texts fs ∷ lines_token lines ∷ [])

-- a `RowText` prints rows of the schema, with texts or without, holds these lines of earlier ones, and was shown the values of one
abbrev pub ShowsLineAs : Bool → RowText → Fields → List ℕ → ValueTrees → Type 0
ShowsLineAs texts r fs lines values = text_shows r (opening_as texts fs ∷ lines_token lines ∷ tokens_each values)

-- a `RowText` prints rows of the schema, with texts or without, holds some lines of earlier ones, and was shown nothing yet of the next one
abbrev pub BeginsRowAs : Bool → RowText → Fields → Type 0
BeginsRowAs texts r fs = (lines : List ℕ) × BeginsLineAs texts r fs lines

-- a `RowText` prints rows of the schema, with texts or without, holds some lines of earlier ones, and was shown the values of one
abbrev pub ShowsRowAs : Bool → RowText → Fields → ValueTrees → Type 0
ShowsRowAs texts r fs values = (lines : List ℕ) × ShowsLineAs texts r fs lines values

-- ---- rows of a source

-- the first of these rows is taken, and its line is held after these lines; T holds of the others
pub record AddsFirstLine (texts : Bool) (fs : Fields) (T : List ValueTrees → Type 0) (Holds : List ℕ → Type 0) (lines : List ℕ) (rows : List ValueTrees) : Type 0 where
  pub first : ValueTrees
  pub rest : List ValueTrees
  pub split : rows ≡ first ∷ rest
  pub stands : T rest
  pub gathers : Holds (lines ++ (row_text_as texts fs first ++ 10 ∷ []))

-- the line of the first of the rows that stood is added, or there is none; out of memory aside, nothing is refused where rows stood
abbrev pub AddsNextLine : Bool → Fields → (List ValueTrees → Type 0) → (List ValueTrees → Type 0) → (List ℕ → Type 0) → List ℕ → Result Bool Refusal → Type 0
AddsNextLine texts fs S T Holds lines (Ok true) = (rows : List ValueTrees) → S rows → RowsFit fs rows → AddsFirstLine texts fs T Holds lines rows
AddsNextLine texts fs S T Holds lines (Ok false) = (rows : List ValueTrees) → S rows → (rows ≡ []) × (T [] × Holds lines)
AddsNextLine texts fs S T Holds lines (Err e) = (rows : List ValueTrees) → S rows → e ≡ Memory

-- ---- without texts

-- as `BeginsLineAs`, without texts
abbrev pub BeginsLine : RowText → Fields → List ℕ → Type 0
BeginsLine = BeginsLineAs false

-- as `ShowsLineAs`, without texts
abbrev pub ShowsLine : RowText → Fields → List ℕ → ValueTrees → Type 0
ShowsLine = ShowsLineAs false

-- as `BeginsRowAs`, without texts
abbrev pub BeginsRow : RowText → Fields → Type 0
BeginsRow = BeginsRowAs false

-- as `ShowsRowAs`, without texts
abbrev pub ShowsRow : RowText → Fields → ValueTrees → Type 0
ShowsRow = ShowsRowAs false
