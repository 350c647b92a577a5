-- What reading one run gives, or what stands after its header: parquet-format, Encodings.md, "Run Length Encoding / Bit-Packing Hybrid".
use Rattle.std.specs.Prelude.{◌≡◌, ℕ, ◌<◌, ◌≤◌, List, [], ◌++◌, length, take, drop}

-- `used` bytes stand for a run, and its first `left` values were put at the end
pub record IsTaken (Stands : List ℕ → List ℕ → List ℕ → Type 0) (bytes : List ℕ) (left : ℕ) (old new : List ℕ) (used : ℕ) : Type 0 where
  pub run : List ℕ
  pub within : used ≤ length bytes
  pub stands : Stands (take used bytes) (drop used bytes) run
  pub put : new ≡ old ++ take left run

-- what stands at the start for a run ends the bytes, and the run has fewer than `left` values
abbrev pub Lacks : (List ℕ → List ℕ → List ℕ → Type 0) → List ℕ → ℕ → Type 0
Lacks Stands bytes left = (text rest run : List ℕ) → bytes ≡ text ++ rest → Stands text rest run → (rest ≡ []) × (length run < left)
