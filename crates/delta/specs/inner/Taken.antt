-- What reading a part of the bytes adds to the values: parquet-format, Encodings.md, "Delta Encoding".
use Rattle.std.specs.Prelude.{◌≡◌, ℕ, ◌+◌, ◌*◌, ◌<◌, ◌≤◌, List, ◌++◌, length, take, map, ℤ, pos, ◌+ℤ◌}
use Rattle.std.specs.Int.{Width}
use Rattle.delta.specs.Delta.{sums}

-- the values of a first value and the deltas before get those of these deltas too
abbrev pub Adds : Width → List ℤ → List ℤ → List ℤ → Type 0
Adds w deltas old new = (first : ℤ) (before : List ℤ) → old ≡ sums w first before (length before + 1) → new ≡ sums w first (before ++ deltas) (length (before ++ deltas) + 1)

-- the deltas of packed numbers
abbrev pub deltas_of : ℤ → List ℕ → List ℤ
deltas_of least numbers = map (λ x. least +ℤ pos x) numbers

-- `used` bytes stand for numbers, and the first `left` of them were added
pub record AreTaken (Stands : List ℕ → ℕ → Type 0) (w : Width) (least : ℤ) (left : ℕ) (old new : List ℤ) (used : ℕ) : Type 0 where
  pub numbers : List ℕ
  pub stand : Stands numbers used
  pub added : Adds w (deltas_of least (take left numbers)) old new

-- `used` bytes stand for deltas, and the first `left` of them were added
pub record IsTaken (Stands : List ℤ → ℕ → Type 0) (w : Width) (left : ℕ) (old new : List ℤ) (used : ℕ) : Type 0 where
  pub deltas : List ℤ
  pub stand : Stands deltas used
  pub added : Adds w (take left deltas) old new

-- as many miniblocks of this size as have a delta for each of n values after the first, and no more
pub record AreNeeded (n size needed : ℕ) : Type 0 where
  pub enough : n ≤ needed * size + 1
  pub fewest : (k : ℕ) → k < needed → k * size + 1 < n
