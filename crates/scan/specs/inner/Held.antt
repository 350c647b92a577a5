-- What the chunks of a part file hold, for the clauses of private functions.
use Rattle.std.specs.Prelude.{◌≡◌, ℕ, ◌-◌, true, List, Some}
use Rattle.std.specs.List.{slice_get}
use Rattle.schema.specs.Values.{ValueTrees}
use Rattle.schema.specs.Shape.{Fields}
use Rattle.schema.specs.Stripe.{Leaf, leaves_of, column}
use Rattle.schema.specs.Keys.{KeyColumn, AreKeys, places_of, without_keys}
use Rattle.manifest.specs.Groups.{Group}
use Rattle.manifest.specs.Parts.{PartMeans}
use Rattle.scan.specs.Cost.{place_of, keys_before, is_stored}
use Rattle.scan.specs.inner.Texts.{HasRange, IsText, IsHeld}

-- the index of a leaf's chunk, by the leaf's index
abbrev pub chunk_of : List KeyColumn → ℕ → Leaf → ℕ
chunk_of keys n l = n - keys_before (places_of keys) (place_of l.steps)

-- each leaf of the table whose column the file has has a chunk, whose own bytes hold the column that the group's rows have there
abbrev pub ChunksHoldColumns : Type 0
ChunksHoldColumns = (keys : List KeyColumn) (fs : Fields) (g : Group) (bytes : List ℕ) (rows : List ValueTrees)
    → AreKeys keys fs → PartMeans keys (without_keys keys fs) g bytes rows
    → (n : ℕ) (l : Leaf) → slice_get (leaves_of fs) n ≡ Some l → is_stored (places_of keys) g.width (place_of l.steps) ≡ true
    → HasRange g.chunks (chunk_of keys n l) × ((text : List ℕ) → IsText g.chunks bytes (chunk_of keys n l) text
    → IsHeld g.chunks (chunk_of keys n l) l text (column rows l.steps))
