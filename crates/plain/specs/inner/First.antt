-- The first of the values that are there from an index on.
use Rattle.std.specs.Prelude.{◌≡◌, ℕ, ◌+◌, ◌-◌, ◌≤◌, List, ◌++◌, length, drop}
use Rattle.bits.specs.Codec.{InTurn}
use Rattle.schema.specs.declared.value.Kind.{Kind}
use Rattle.plain.specs.Plain.{IsSpelled}
use Rattle.plain.specs.ValuesFrom.{values_from, end_from}

-- the first `count` of `left` values take `used` bytes, and the others come after them
pub record AreFirst (kind : Kind) (count left at : ℕ) (body : List ℕ) (used : ℕ) : Type 0 where
  pub stand : InTurn (IsSpelled kind) (drop at body) (values_from kind count at body) used
  pub within : at + used ≤ length body
  pub rest : end_from kind (left - count) (at + used) body ≤ length body
  pub joined : values_from kind left at body ≡ values_from kind count at body ++ values_from kind (left - count) (at + used) body
