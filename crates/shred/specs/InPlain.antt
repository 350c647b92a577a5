-- Bytes that are values in PLAIN.
use Rattle.std.specs.Prelude.{◌≡◌, ◌≢◌, ℕ, ◌≤◌, List, length}
use Rattle.schema.specs.declared.value.Kind.{Kind}
use Rattle.schema.specs.declared.value.Kind.TheVariants.{Boolean}
use Rattle.plain.specs.Plain.{AreBytes}
use Rattle.plain.specs.ValuesFrom.{end_from}

-- the bytes are those of so many values of the type, and the first ones are those of the values that are marked
pub record AreInPlain (kind : Kind) (bytes : List ℕ) (count marked size : ℕ) : Type 0 where
  pub whole_bytes : kind ≢ Boolean
  pub are_bytes : AreBytes bytes
  pub filled : end_from kind count 0 bytes ≡ length bytes
  pub within : marked ≤ count
  pub first : end_from kind marked 0 bytes ≡ size
