-- The values that a cursor over shared prefixes still gives: parquet-format, Encodings.md, "Delta Strings".
use Rattle.std.specs.Prelude.{◌≡◌, ℕ, Bool, true, false, List, [], ◌∷◌, drop, Option, Some, None, Result, Ok, Err}
use Rattle.std.specs.Borrow.{Fml, Bor, MutBor}
use Rattle.std.specs.Io.BufRead.{Rests}
use mir.Syntax.{named}
use Rattle.bits.specs.declared.refusal.Refusal.TheVariants.{Memory}
use Rattle.bits.specs.declared.fault.Fault.{Fault}
use Rattle.bits.specs.Faults.{refusal_of}
use Rattle.delta.specs.ByteDeltas.{completed}
use Rattle.delta.specs.declared.prefixes.Prefixed.{Prefixed}
use Rattle.delta.specs.contracts.prefixes.Prefixed.{the_row}

-- the values that are not taken yet
abbrev pub values_left : Prefixed → List (List ℕ)
values_left p = completed p.value.items (drop p.index p.prefixes.items) (drop p.index p.lengths.items) p.rest.now

-- the value that was taken last
abbrev pub last_taken : Prefixed → List ℕ
last_taken p = p.value.items

-- one value is taken, or none at the end; it is refused only when out of memory, and then none is taken
abbrev pub Advances : Prefixed → Prefixed → Result Bool Fault → Type 0
Advances old new (Ok true) = values_left old ≡ last_taken new ∷ values_left new
Advances old new (Ok false) = (values_left old ≡ []) × (values_left new ≡ []) × (last_taken new ≡ last_taken old)
Advances old new (Err fault) = (refusal_of fault ≡ Memory) × (values_left new ≡ values_left old) × (last_taken new ≡ last_taken old)

-- the first of the values is returned, or none at the end; it is refused only when out of memory
abbrev pub Gives : List (List ℕ) → Result (Option (Bor (List ℕ))) Fault → Type 0
Gives [] (Ok (Some value)) = ⊥
Gives (first ∷ values) (Ok (Some value)) = value.now ≡ first
Gives values (Ok None) = values ≡ []
Gives values (Err fault) = refusal_of fault ≡ Memory

-- the value that is returned is taken, and no other
abbrev pub Takes : List (List ℕ) → List (List ℕ) → Result (Option (Bor (List ℕ))) Fault → Type 0
Takes old new (Ok (Some value)) = old ≡ value.now ∷ new
Takes old new (Ok None) = new ≡ old
Takes old new (Err fault) = new ≡ old

-- once the value that is returned is no longer borrowed, it is taken, and no other
abbrev pub EndsAs : MutBor Prefixed → Result (Option (Bor (List ℕ))) Fault → Fml
EndsAs p result = Rests (the_row (record { mir = named 0; lft = [] })) p (λ new. Takes (values_left p.now) (values_left new) result)
