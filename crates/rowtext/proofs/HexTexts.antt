-- The hexadecimal digits of bytes are read as those bytes.
use Rattle.std.proofs.Common.{◌≡◌, ℕ, List, Some, refl}
use Rattle.std.proofs.lemmas.Slice.Eq.{bytes_eq-Decides}
use Rattle.hex.specs.Hex.{encode_lower, IsBytes}
use Rattle.hex.proofs.HexLemmas.{decode_of-encode_lower}
use Rattle.rowtext.specs.Reading.{bytes_of_digits}

pub digits_said : (bytes : List ℕ) → IsBytes bytes → bytes_of_digits (encode_lower bytes) ≡ Some bytes
digits_said bytes h = rw (decode_of-encode_lower bytes h, (bytes_eq-Decides (encode_lower bytes) (encode_lower bytes)).1 refl) refl
