-- What reading and writing a record returns.
use Rattle.std.specs.Prelude.{◌≡◌, ℕ, List, Option, Some, None, Result, Ok, Err}
use Rattle.bits.specs.declared.refusal.Refusal.{Refusal}
use Rattle.bits.specs.declared.refusal.Refusal.TheVariants.{Thrift, Memory}
use Rattle.bits.specs.Codec.{Appends}
use Rattle.thrift_compact.specs.Tree.{Fields}
use Rattle.thrift_compact.specs.Compact.{IsThrift}

-- the result is the one record that the fields are, or Thrift if they are no such record, or Memory
abbrev pub IsRecordOf : {X Y : Type 0} → (X → Y) → Option Y → Result X Refusal → Type 0
IsRecordOf view is (Ok x) = is ≡ Some (view x)
IsRecordOf view is (Err Thrift) = is ≡ None
IsRecordOf view is (Err Memory) = Unit {0}
IsRecordOf view is (Err e) = ⊥

-- the first `used` bytes are a struct whose fields are this record
pub record StandsFor {Y : Type 0} (is : Fields → Option Y) (bytes : List ℕ) (y : Y) (used : ℕ) : Type 0 where
  pub fields : Fields
  pub spelled : IsThrift bytes fields used
  pub record_of : is fields ≡ Some y

-- the bytes of `new` are those of `old` and at most `most` more, which are read as this record, whatever follows them
abbrev pub AppendsRecord : {Y : Type 0} → (Fields → Option Y) → Y → ℕ → List ℕ → List ℕ → Type 0
AppendsRecord is y most old new = Appends (λ bytes used. StandsFor is bytes y used) most old new
