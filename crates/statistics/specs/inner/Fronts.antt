-- The number that the first bytes of a text make.
use Rattle.std.specs.Prelude.{◌≡◌, ℕ, ◌<◌, List, All}
use Rattle.byteorder.specs.Endian.{big_number}

-- the number of the first eight bytes, the highest first, with zeros for those that are not there
pub record IsFrontOf (bytes : List ℕ) (front : ℕ) : Type 0 where
  pub number : front ≡ big_number 8 bytes
  pub are_bytes : All (λ b. b < 256) bytes
