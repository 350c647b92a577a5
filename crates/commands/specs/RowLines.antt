-- The lines of a text as rows: with texts of dates, times, timestamps and decimals, or without.
use Rattle.std.specs.Prelude.{◌≡◌, ℕ, Bool, List, [], ◌∷◌, ◌++◌, Some, None}
use Rattle.serde_json.specs.Data.{Data, Members}
use Rattle.serde_json.specs.Read.{read}
use Rattle.bits.specs.declared.refusal.Refusal.{Refusal}
use Rattle.bits.specs.declared.refusal.Refusal.TheVariants.{RowShape, Script}
use Rattle.bits.specs.Refusals.{HasCause}
use Rattle.schema.specs.Values.{ValueTrees}
use Rattle.schema.specs.Shape.{Fields}
use Rattle.rowtext.specs.Reading.{row_of_as, line_of, members_read_as}

-- a text is JSON, and this row
abbrev pub IsRowText : Bool → Fields → List ℕ → ValueTrees → Type 0
IsRowText texts fs text row = (d : Data) × (read text ≡ Some d) × (row_of_as texts fs d ≡ Some row)

-- each line is that of a row, in their order
abbrev pub AreRowTexts : Bool → Fields → List (List ℕ) → List ValueTrees → Type 0
AreRowTexts texts fs [] [] = Unit {0}
AreRowTexts texts fs (line ∷ lines) (row ∷ rows) = IsRowText texts fs line row × AreRowTexts texts fs lines rows
AreRowTexts texts fs _ _ = ⊥

-- a text is refused so: it is no JSON object, or one that is no row
abbrev pub IsRefusedLine : Bool → Fields → List ℕ → Refusal → Type 0
IsRefusedLine texts fs text Script = line_of text ≡ None
IsRefusedLine texts fs text RowShape = (ms : Members) × (line_of text ≡ Some ms) × (members_read_as texts fs ms ≡ None)
IsRefusedLine texts fs text _ = ⊥

-- a line is refused so, and those before it are rows
pub record HasFirstFault (texts : Bool) (fs : Fields) (lines : List (List ℕ)) (e : Refusal) : Type 0 where
  pub before : List (List ℕ)
  pub text : List ℕ
  pub after : List (List ℕ)
  pub rows : List ValueTrees
  pub joined : lines ≡ before ++ text ∷ after
  pub read : AreRowTexts texts fs before rows
  pub refused : IsRefusedLine texts fs text e

-- lines are refused so: for the first that is no row, or out of memory
abbrev pub AreRefusedRows : Bool → Fields → List (List ℕ) → Refusal → Type 0
AreRefusedRows texts fs lines e = HasCause (HasFirstFault texts fs lines) e
