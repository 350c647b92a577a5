-- One entry off a column.
use Rattle.std.specs.Prelude.{◌≡◌, ℕ, zero, suc, ◌+◌, ◌<◌, ◌≤◌, ◌⊎◌, Bool, true, false, List, [], ◌∷◌, length, Option, Some, None, MatchOption}
use Rattle.std.specs.List.{AllByRecursion}
use Rattle.bits.specs.declared.refusal.Refusal.{Refusal}
use Rattle.schema.specs.Annotations.{LeafType}
use Rattle.schema.specs.declared.value.Repetition.{Repetition}
use Rattle.schema.specs.declared.value.Repetition.TheVariants.{Repeated}
use Rattle.schema.specs.Values.{ValueTree, null, list, no_values}
use Rattle.schema.specs.Shape.{Field, leaf}
use Rattle.schema.specs.Fits.{fits_leaf}
use Rattle.schema.specs.Stripe.{Entry, entry}
use Rattle.assemble.specs.Sources.{Stands, Begins, NothingStands, Precede}
use Rattle.assemble.specs.Columns.{Columns, Fronts, AreAlike, Want, Suits, AllSuit, Tells}
use Rattle.assemble.specs.inner.Fronts.{nones}

-- the refusal is Memory
abbrev pub IsMemory : Refusal → Type 0
IsMemory = Tells ⊥ ⊥

-- the value fits and is that of the next entry, which has these levels and is taken
pub record ReadsLeaf (t : LeafType) (r d : ℕ) (S T : Stands) (v : ValueTree) : Type 0 where
  pub fits : fits_leaf t v ≡ true
  pub first : Precede (entry r d (Some v)) S T

-- an OPTIONAL value is there, one level deeper, or it is null and the next entry, which is taken, has these levels and no value
abbrev pub ReadsOptional : LeafType → ℕ → ℕ → Stands → Stands → ValueTree → Type 0
ReadsOptional t r d S T v = ReadsLeaf t r (d + 1) S T v ⊎ ((v ≡ null) × Precede (entry r d None) S T)

-- a REQUIRED or OPTIONAL leaf
abbrev pub is_single : Field → Bool
is_single (leaf n Repeated t) = false
is_single (leaf n x t) = true
is_single _ = false

-- the value of a field that is missing
abbrev pub missing_value : Repetition → ValueTree
missing_value Repeated = list no_values
missing_value _ = null

-- a refusal is the source's own, where nothing stood and there was a cause for it;
-- or the source was not refused, it is Levels, Value or Memory, and P holds of the entries that stood
abbrev pub IsSourceRefusedFor : {A : Type 0} → (A → List Entry → Type 0) → (A → Option Refusal) → (A → Refusal → Type 0) → A → A → (List Entry → Refusal → Type 0) → Refusal → Type 0
IsSourceRefusedFor S refused cause old new P e =
    ((refused new ≡ Some e) × NothingStands (S old) × cause old e)
    ⊎ ((refused new ≡ refused old) × (Tells (Unit {0}) (Unit {0}) e × ((es : List Entry) → S old es → P es e)))

-- Levels: the next entry has other levels than these; Value: an entry is not as one of a leaf with the greatest definition level d should be
abbrev pub IsLeafFaulty : ℕ → ℕ → LeafType → List Entry → Refusal → Type 0
IsLeafFaulty r d t es = Tells (Begins es r d → ⊥) (AllByRecursion (Suits (record { full = d; leaf_type = t })) es → ⊥)

-- Levels: the next entry has neither the levels of a null nor those of a value; Value: an entry lacks a value that fits, or has one too many
abbrev pub IsOptionalFaulty : ℕ → ℕ → LeafType → List Entry → Refusal → Type 0
IsOptionalFaulty r d t es = Tells ((Begins es r d ⊎ Begins es r (d + 1)) → ⊥) (AllByRecursion (Suits (record { full = d + 1; leaf_type = t })) es → ⊥)

-- Levels: the next entry has other levels than these; Value: the entries are those of no leaf whose greatest definition level is above d
abbrev pub IsAbsentFaulty : ℕ → ℕ → List Entry → Refusal → Type 0
IsAbsentFaulty r d es = Tells (Begins es r d → ⊥) ((w : Want) → d < w.full → AllByRecursion (Suits w) es → ⊥)

-- the leaves of these have a greatest definition level above d
abbrev pub AreAbove : ℕ → List Want → Type 0
AreAbove d ws = AllByRecursion (λ (w : Want). d < w.full) ws

-- of n columns one does not begin with an entry of these levels, or it has a value
abbrev pub IsSkipFaulty : ℕ → ℕ → ℕ → Columns → Refusal → Type 0
IsSkipFaulty r d n old =
    Tells ((whole rests : Columns) → AreAlike whole old → Fronts (nones r d n) whole rests → ⊥)
    ((ws : List Want) → length ws ≡ n → AreAbove d ws → AllSuit ws old → ⊥)

-- the entries of the first column; none if there is no column
abbrev pub first_of : Columns → List Entry
first_of [] = []
first_of (c ∷ cs) = c

-- whether the first entry has a definition level of at most d
abbrev pub IsMissing : ℕ → List Entry → Bool → Type 0
IsMissing d [] b = ⊥
IsMissing d (e ∷ es) true = e.definition ≤ d
IsMissing d (e ∷ es) false = d < e.definition

-- Levels: no entry is left
abbrev pub NoneLeft : List Entry → Refusal → Type 0
NoneLeft es = Tells (es ≡ []) ⊥

-- whether there is an entry, with a repetition level of at least k
abbrev pub HasItem : ℕ → List Entry → Bool → Type 0
HasItem k [] true = ⊥
HasItem k [] false = Unit {0}
HasItem k (e ∷ es) true = k ≤ e.repetition
HasItem k (e ∷ es) false = e.repetition < k

-- of the first n columns none has an entry left
abbrev pub Ended : {A : Type 0} → (A → List Entry → Type 0) → ℕ → List A → Type 0
Ended S zero xs = Unit {0}
Ended S (suc n) (x ∷ xs) = S x [] × Ended S n xs
Ended S (suc n) [] = ⊥

-- one of the columns has an entry
abbrev pub Filled : Columns → Type 0
Filled [] = ⊥
Filled ([] ∷ cs) = Filled cs
Filled ((e ∷ c) ∷ cs) = Unit {0}

-- the first entry has both levels 0, and a value
abbrev pub BeginsWithValue : List Entry → Type 0
BeginsWithValue [] = ⊥
BeginsWithValue (e ∷ es) = (e.repetition ≡ 0) × ((e.definition ≡ 0) × MatchOption e.value ⊥ (λ _. Unit {0}))
