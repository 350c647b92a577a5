-- How a path is read back.
use Rattle.std.specs.Prelude.{◌≡◌, ℕ, ℤ, ◌<◌, ◌^◌, Bool, true, List, [], ◌∷◌, ◌++◌, Option, Some, MatchOption, IsTrue, codes}
use mir.Syntax.{w64}
use Rattle.std.specs.Fmt.{decimal, signed_decimal}
use Rattle.std.specs.Int.RustNames.{FitsSigned}
use Rattle.std.specs.Borrow.{Bor}
use Rattle.std.specs.List.{AllByRecursion}
use Rattle.schema.specs.declared.key.KeyKind.{KeyKind}
use Rattle.schema.specs.declared.value.Value.{Value}
use Rattle.schema.specs.declared.key.Key.{Key}
use Rattle.schema.specs.Values.{ValueTree, boolean, view}
use Rattle.schema.specs.Views.{key_view}
use Rattle.schema.specs.Keys.{KeyColumn}
use Rattle.partition.specs.Folders.{escaped, value_text, is_key_value, is_key, path}

-- the text is empty, or begins with this byte
abbrev pub Begins : ℕ → List ℕ → Type 0
Begins b [] = Unit {0}
Begins b (c ∷ cs) = c ≡ b

-- the byte `c` is not `b`
abbrev pub HasNo : ℕ → ℕ → Type 0
HasNo b c = c ≡ b → ⊥

-- the text is `first` and `after`, and is cut before the first byte `b`, or at its end if there is none
pub record IsCutBefore (b : ℕ) (text first after : List ℕ) : Type 0 where
  pub whole : first ++ after ≡ text
  pub before : AllByRecursion (HasNo b) first
  pub from : Begins b after

-- a text that is the folder of a value is read as that value
abbrev pub ReadsBack : KeyKind → List ℕ → Option Value → Type 0
ReadsBack kind text found = (name : List ℕ) (v : ValueTree) → is_key_value kind v ≡ true → text ≡ escaped name ++ 61 ∷ escaped (value_text v)
    → MatchOption found ⊥ (λ w. view w ≡ v)

-- the text between those that stand around the number of a part file
abbrev pub IsMiddle : List ℕ → Option (Bor (List ℕ)) → Type 0
IsMiddle name result = (middle : List ℕ) → name ≡ codes "part." ++ (middle ++ codes ".parquet") → MatchOption result ⊥ (λ found. found.now ≡ middle)

-- a number in plain decimal is read as that number
abbrev pub ReadsSigned : List ℕ → Option ℤ → Type 0
ReadsSigned text found = (z : ℤ) → FitsSigned w64 z → text ≡ signed_decimal z → found ≡ Some z

-- the text of a value is read as that value
abbrev pub ReadsText : KeyKind → List ℕ → Option Value → Type 0
ReadsText kind text found = (v : ValueTree) → is_key_value kind v ≡ true → text ≡ value_text v → MatchOption found ⊥ (λ w. view w ≡ v)

-- the text of a boolean, `true` or `false`, is read as that boolean
abbrev pub ReadsBoolean : List ℕ → Option Bool → Type 0
ReadsBoolean text found = (b : Bool) → text ≡ value_text (boolean b) → found ≡ Some b

-- the values `done` of a key are read, and the rest of the text is the path of the later values
pub record ReadsOn (columns : List KeyColumn) (key done : List ValueTree) (rest : List ℕ) : Type 0 where
  pub later : List ValueTree
  pub split : key ≡ done ++ later
  pub keyed : IsTrue (is_key columns later)
  pub left : path columns later ≡ rest

-- the path of a key is read as that key
abbrev pub ReadsPath : List KeyColumn → List ℕ → Option Key → Type 0
ReadsPath columns text found = (key : List ValueTree) → IsTrue (is_key columns key) → path columns key ≡ text → MatchOption found ⊥ (λ k. key_view k ≡ key)
