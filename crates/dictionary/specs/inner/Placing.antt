-- What one more value does to the entries.
use Rattle.std.specs.Prelude.{◌≡◌, ℕ, ◌⊎◌, List, [], ◌∷◌, ◌++◌, length, slice_get, Some, Contains}
use Rattle.schema.specs.Values.{ValueTree}

-- the value is the entry at this index, where it stood or as a new one at the end
pub record IsPlaced (old : List ValueTree) (value : ValueTree) (at : ℕ) (new : List ValueTree) : Type 0 where
  pub there : slice_get new at ≡ Some value
  pub grown : (new ≡ old) ⊎ ((Contains old value → ⊥) × (new ≡ old ++ value ∷ []))

-- there are n entries, and the value is none of them
pub record IsFull (n : ℕ) (entries : List ValueTree) (value : ValueTree) : Type 0 where
  pub full : length entries ≡ n
  pub other : Contains entries value → ⊥
