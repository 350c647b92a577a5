-- Columns of entries, their levels, and what the entries of a leaf should be: parquet.apache.org, "Nested Encoding".
use Rattle.std.specs.Prelude.{◌≡◌, ℕ, ◌<◌, List, [], ◌∷◌, ◌++◌, map, ◌⊎◌, Option, Some, MatchOption, true}
use Rattle.std.specs.List.{AllByRecursion}
use Rattle.bits.specs.declared.refusal.Refusal.{Refusal}
use Rattle.bits.specs.declared.refusal.Refusal.TheVariants as refusal
use Rattle.schema.specs.Annotations.{LeafType}
use Rattle.schema.specs.Fits.{fits_leaf}
use Rattle.schema.specs.Stripe.{Entry}

-- columns, each as the list of its entries
abbrev pub Columns : Type 0
Columns = List (List Entry)

-- the levels of an entry, without its value
abbrev pub level : Entry → ℕ × ℕ
level e = (e.repetition, e.definition)

-- the columns have the same levels
abbrev pub AreAlike : Columns → Columns → Type 0
AreAlike xs ys = map (map level) xs ≡ map (map level) ys

-- the columns `old` are these stripes and after them `new`; further columns are the same
abbrev pub Fronts : Columns → Columns → Columns → Type 0
Fronts [] old new = old ≡ new
Fronts (s ∷ ss) (o ∷ os) (n ∷ ns) = (o ≡ s ++ n) × Fronts ss os ns
Fronts (s ∷ ss) _ _ = ⊥

-- what an entry should have: a value of the type exactly when its definition level is `full`
pub record Want : Type 0 where
  pub full : ℕ
  pub leaf_type : LeafType

-- an entry has a value, which fits the type, and the greatest definition level; or it has no value, and a lower one
abbrev pub Suits : Want → Entry → Type 0
Suits w e = MatchOption e.value (e.definition < w.full) (λ v. (e.definition ≡ w.full) × (fits_leaf w.leaf_type v ≡ true))

-- each column's entries are as they should be
abbrev pub AllSuit : List Want → Columns → Type 0
AllSuit (w ∷ ws) (c ∷ cs) = AllByRecursion (Suits w) c × AllSuit ws cs
AllSuit _ _ = Unit {0}

-- what a refusal says: Levels the first, Value the second, Memory nothing; no other refusal comes
abbrev pub Tells : Type 0 → Type 0 → Refusal → Type 0
Tells of_levels of_value refusal.Levels = of_levels
Tells of_levels of_value refusal.Value = of_value
Tells of_levels of_value refusal.Memory = Unit {0}
Tells of_levels of_value _ = ⊥

-- the refusal is one of those in the list
abbrev pub IsAmong : Refusal → List (Option Refusal) → Type 0
IsAmong e [] = ⊥
IsAmong e (o ∷ os) = (o ≡ Some e) ⊎ IsAmong e os
