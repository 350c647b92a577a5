-- Columns as filters name them.
use Rattle.std.proofs.Common.{◌≡◌, ◌≢◌, ℕ, List, [], ◌∷◌, length, map, refl, sym}
use Rattle.serde_json.specs.Data.{string, array}
use Rattle.serde_json.specs.View.{items_of}
use Rattle.jsonrows.specs.GroupColumns.{column_json}

-- a path that has not one name is an array of names
pub many_names : (names : List (List ℕ)) → length names ≢ 1 → array (items_of (map string names)) ≡ column_json names
many_names [] h = refl
many_names (n ∷ []) h = absurd (h refl)
many_names (n ∷ m ∷ names) h = refl
