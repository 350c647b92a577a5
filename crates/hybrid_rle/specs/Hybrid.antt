-- The hybrid of repeated values and packed values: parquet-format, Encodings.md, "Run Length Encoding / Bit-Packing Hybrid".
-- A run is seen as the list of the values that it stands for.
use Rattle.std.specs.Prelude.{◌≡◌, ℕ, ◌+◌, ◌*◌, ◌/◌, ◌^◌, ◌<◌, ◌≤◌, List, [], ◌∷◌, ◌++◌, length, take, replicate, ◌⊎◌}
use Rattle.std.specs.List.{concat}
use Rattle.bits.specs.Bits.{IsPacked}
use Rattle.bits.specs.Varint.{IsUleb}

-- the number of bytes, the lowest first
abbrev pub little_endian : List ℕ → ℕ
little_endian [] = 0
little_endian (b ∷ bytes) = b + 256 * little_endian bytes

-- after an even header, 2 * count: a value in as few whole bytes as hold `width` bits, which stands for itself, count times
pub record IsRepeated (width header : ℕ) (body run : List ℕ) : Type 0 where
  pub count : ℕ
  pub even : header ≡ 2 * count
  pub size : length body ≡ (width + 7) / 8
  pub narrow : little_endian body < 2 ^ width
  pub stands_for : run ≡ replicate count (little_endian body)

-- after an odd header, 2 * groups + 1: this many groups of eight packed values
pub record IsPackedWhole (width header : ℕ) (body run : List ℕ) : Type 0 where
  pub groups : ℕ
  pub odd : header ≡ 2 * groups + 1
  pub size : length body ≡ groups * width
  pub count : length run ≡ 8 * groups
  pub stands_for : IsPacked body width run

-- after an odd header, fewer bytes than the groups take: they stand for each value that is there whole
pub record IsPackedCut (width header : ℕ) (body run : List ℕ) : Type 0 where
  pub groups : ℕ
  pub odd : header ≡ 2 * groups + 1
  pub short : length body < groups * width
  pub stands_for : IsPacked body width run
  pub every : 8 * length body < (length run + 1) * width

-- what a header stands before; only where no bytes are left may packed values be cut
abbrev pub IsBody : ℕ → ℕ → List ℕ → List ℕ → List ℕ → Type 0
IsBody width header body rest run = IsRepeated width header body run ⊎ (IsPackedWhole width header body run ⊎ ((rest ≡ []) × IsPackedCut width header body run))

-- a run that stands before `rest`: a varint, and what it announces
pub record IsRun (width : ℕ) (text rest run : List ℕ) : Type 0 where
  pub varint : List ℕ
  pub header : ℕ
  pub body : List ℕ
  pub spelled : text ≡ varint ++ body
  pub says : IsUleb varint header (length varint)
  pub announced : IsBody width header body rest run

-- runs, one after the other
abbrev pub AreRuns : ℕ → List ℕ → List ℕ → List (List ℕ) → Type 0
AreRuns width text rest [] = text ≡ []
AreRuns width text rest (run ∷ runs) = (front : List ℕ) × (more : List ℕ) × (text ≡ front ++ more) × IsRun width front (more ++ rest) run × AreRuns width more rest runs

-- the shortest list of runs at the start that has n values: its first n are the values, and its end is where they end
pub record IsHybrid (width : ℕ) (bytes : List ℕ) (n : ℕ) (values : List ℕ) (used : ℕ) : Type 0 where
  pub runs : List (List ℕ)
  pub text : List ℕ
  pub rest : List ℕ
  pub front : bytes ≡ text ++ rest
  pub spelled : AreRuns width text rest runs
  pub enough : n ≤ length (concat runs)
  pub shortest : (k : ℕ) → k < length runs → length (concat (take k runs)) < n
  pub first : values ≡ take n (concat runs)
  pub ends : used ≡ length text
