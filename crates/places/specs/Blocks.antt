-- A file that is read in blocks: what is left of it.
use Rattle.std.specs.Prelude.{◌≡◌, ◌+◌, ⊤, ℕ, Bool, false, List, [], ◌++◌, length, take, Option, Some, None}
use Rattle.std.specs.Io.KnownBytes.{Consumes, IsAtEnd}

-- the bytes are those that are known, where some are
abbrev pub AreKnown : Option (List ℕ) → List ℕ → Type 0
AreKnown None bytes = ⊤
AreKnown (Some known) bytes = bytes ≡ known

-- The next block was read: it stands behind what a buffer had, and is left no more. None comes only where nothing is left.
pub record ReadsBlock (old new : Option (List ℕ)) (before after : List ℕ) (some : Bool) : Type 0 where
  pub block : List ℕ
  pub joined : after ≡ before ++ block
  pub gone : Consumes old new block
  pub over : some ≡ false → (block ≡ []) × IsAtEnd new

-- so many bytes were put behind those that were there
pub record ArePutBehind (before after : List ℕ) (n : ℕ) : Type 0 where
  pub front : take (length before) after ≡ before
  pub many : length after ≡ length before + n
