-- What is written as the struct of a record.
use Rattle.std.proofs.Common.{◌≡◌, ℕ, ◌+◌, ◌≤◌, List, length, Option, Some, Result, Ok, Err, arith}
use Rattle.std.proofs.lemmas.List.{length-append}
use Rattle.std.specs.Prelude.{OnOk}
use Rattle.bits.specs.declared.refusal.Refusal.{Refusal}
use Rattle.bits.specs.Refusals.{OnFault}
use Rattle.bits.specs.Codec.{Appends}
use Rattle.thrift_compact.specs.Tree.{Fields}
use Rattle.thrift_compact.specs.Compact.{IsThrift}
use Rattle.thrift_compact.specs.Length.{size_struct}
use Rattle.metadata.specs.Answers.{StandsFor}

-- the struct is spelled at the end
abbrev pub AppendsStruct : Fields → List ℕ → List ℕ → Type 0
AppendsStruct fs old new = Appends (λ bytes used. IsThrift bytes fs used) (size_struct fs) old new

-- and the record that it is stands there
pub stands_again : {Y E : Type 0} (is : Fields → Option Y) (fs : Fields) (y : Y) (old new : List ℕ) (r : Result (Unit {0}) E) → is fs ≡ Some y → OnOk r (AppendsStruct fs old new) → OnOk r (Appends (λ bytes used. StandsFor is bytes y used) (size_struct fs) old new)
stands_again is fs y old new (Ok x) again p = record { text = p.text; joined = p.joined; stands = λ more. record { fields = fs; spelled = p.stands more; record_of = again }; short = p.short }
stands_again is fs y old new (Err e) again p = tt

-- what is refused for a fault only where P is refused so only where Q, if P gives Q
pub only_where : {X : Type 0} (P Q : Type 0) (r : Result X Refusal) → (P → Q) → OnFault r P → OnFault r Q
only_where P Q (Ok x) gives p = tt
only_where P Q (Err e) gives p = λ fault. gives (p fault)

-- what is written is no longer than a bound of the struct
pub within_weight : {E : Type 0} (fs : Fields) (most : ℕ) (old new : List ℕ) (r : Result (Unit {0}) E) → size_struct fs ≤ most → OnOk r (AppendsStruct fs old new) → OnOk r (length new ≤ length old + most)
within_weight fs most old new (Ok x) le p = let short = p.short in rw p.joined (omega (arith, short, le, length-append old p.text))
within_weight fs most old new (Err e) le p = tt
