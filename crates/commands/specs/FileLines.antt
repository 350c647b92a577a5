-- The lines of a file that is read in blocks, and how they are refused.
use Rattle.std.specs.Prelude.{◌≡◌, ◌⊎◌, ◌≤◌, ◌^◌, ℕ, Bool, List, [], ◌∷◌, ◌++◌, length, None, IsUtf8}
use Rattle.std.specs.Str.Lines.{lines}
use Rattle.rowtext.specs.Reading.{line_of}
use Rattle.bits.specs.declared.refusal.Refusal.{Refusal}
use Rattle.bits.specs.declared.refusal.Refusal.TheVariants.{Device, Limit, Script}
use Rattle.bits.specs.Refusals.{HasCause}
use Rattle.schema.specs.Shape.{Fields}
use Rattle.schema.specs.Values.{ValueTrees}
use Rattle.commands.specs.RowLines.{AreRowTexts, IsRefusedLine}

-- bytes are whole lines: none, or the last of them is a line feed
abbrev pub AreWholeLines : List ℕ → Type 0
AreWholeLines bytes = (bytes ≡ []) ⊎ ((front : List ℕ) × (bytes ≡ front ++ 10 ∷ []))

-- a line of bytes is refused so: it is no text, or no object, or no row, or it is too long
abbrev pub IsRefusedIn : Bool → Fields → List ℕ → Refusal → Type 0
IsRefusedIn texts fs line Script = (IsUtf8 line → ⊥) ⊎ (line_of line ≡ None)
IsRefusedIn texts fs line Limit = 2 ^ 30 ≤ length line
IsRefusedIn texts fs line e = IsRefusedLine texts fs line e

-- a line is refused so, and those before it are rows
pub record HasFirstFaultIn (texts : Bool) (fs : Fields) (all : List (List ℕ)) (e : Refusal) : Type 0 where
  pub before : List (List ℕ)
  pub line : List ℕ
  pub after : List (List ℕ)
  pub rows : List ValueTrees
  pub joined : all ≡ before ++ line ∷ after
  pub read : AreRowTexts texts fs before rows
  pub refused : IsRefusedIn texts fs line e

-- lines are refused so: for the first that is no row, or out of memory
abbrev pub AreRefusedIn : Bool → Fields → List (List ℕ) → Refusal → Type 0
AreRefusedIn texts fs all e = HasCause (HasFirstFaultIn texts fs all) e

-- the lines of a file are refused so: as the lines of its bytes are, or it cannot be read
abbrev pub AreRefusedOf : Type 0 → (List ℕ → Type 0) → Bool → Fields → Refusal → Type 0
AreRefusedOf IsShut HasBytes texts fs e =
    HasCause (λ f. ((f ≡ Device) × IsShut) ⊎ ((bytes : List ℕ) × HasBytes bytes × HasFirstFaultIn texts fs (lines bytes) f)) e
