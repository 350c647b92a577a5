-- What a source of entries gives. What it would still give is a relation: it stands for a list of entries, or for nothing where it will be refused.
use Rattle.std.specs.Prelude.{◌≡◌, ℕ, List, [], ◌∷◌, ◌++◌, Option, Some, None, MatchOption, Result, Ok, Err, ⊤, true}
use Rattle.std.specs.Borrow.{follows_so, Fml, RattleType, MutBor}
use mathlib.Core.Option.{none}
use Rattle.bits.specs.declared.refusal.Refusal.{Refusal}
use Rattle.bits.specs.declared.refusal.Refusal.TheVariants.{Memory}
use Rattle.bits.specs.declared.fault.Fault.{Fault}
use Rattle.bits.specs.Faults.{refusal_of}
use Rattle.schema.specs.Annotations.{LeafType}
use Rattle.schema.specs.Fits.{fits_leaf}
use Rattle.schema.specs.Stripe.{Entry, entry}
use Rattle.schema.specs.declared.borrowed.EntryRef.{EntryRef}
use Rattle.schema.specs.declared.borrowed.ValueRef.{ValueRef}
use Rattle.schema.specs.Borrowed.{value_ref_view, entry_ref_view}

-- which entries stand
abbrev pub Stands : Type 1
Stands = List Entry → Type 0

-- P holds of what s is once the result's borrow of it ends
abbrev pub Rests : (R : RattleType) → MutBor R.Denot → (R.Denot → Type 0) → Fml
Rests R s P = follows_so R R s.ghost_name none (λ _ _. ⊤) P

-- the first of the entries has these levels
abbrev pub Begins : List Entry → ℕ → ℕ → Type 0
Begins [] r d = ⊥
Begins (e ∷ es) r d = (e.repetition ≡ r) × (e.definition ≡ d)

-- no entries stand
abbrev pub NothingStands : Stands → Type 0
NothingStands S = (es : List Entry) → S es → ⊥

-- these entries stand, and no others
abbrev pub StandsOnly : Stands → List Entry → Type 0
StandsOnly S only = S only × ((es : List Entry) → S es → es ≡ only)

-- for the same entries both stand
abbrev pub Same : Stands → Stands → Type 0
Same S T = ((es : List Entry) → S es → T es) × ((es : List Entry) → T es → S es)

-- S stands for these entries followed by what T stands for
abbrev pub Precede : List Entry → Stands → Stands → Type 0
Precede first S T =
    ((rest : List Entry) → T rest → S (first ++ rest))
    × ((es : List Entry) → S es → (rest : List Entry) × ((es ≡ first ++ rest) × T rest))

-- a source that was refused before is refused so again
abbrev pub Again : Option Refusal → Refusal → Type 0
Again None e = Unit {0}
Again (Some f) e = f ≡ e

-- out of memory aside, a source is refused only where nothing stands
abbrev pub Refuses : Stands → Option Refusal → Refusal → Type 0
Refuses S r Memory = Unit {0}
Refuses S r e = NothingStands S × Again r e

-- out of memory aside, a source that was refused is refused so from then on; out of memory it is as before
abbrev pub Keeps : Option Refusal → Option Refusal → Refusal → Type 0
Keeps old new Memory = new ≡ old
Keeps old new e = new ≡ Some e

-- a cause later was one before
abbrev pub CausesStay : {A : Type 0} → (A → Refusal → Type 0) → A → A → Type 0
CausesStay cause old new = (e : Refusal) → cause new e → cause old e

-- what is shown of the next entry
abbrev pub Shows : Stands → Option Refusal → Result (Option (ℕ × ℕ)) Refusal → Type 0
Shows S r (Ok (Some levels)) = (r ≡ None) × ((es : List Entry) → S es → Begins es levels.0 levels.1)
Shows S r (Ok None) = (r ≡ None) × StandsOnly S []
Shows S r (Err e) = Refuses S r e

-- nothing is taken
abbrev pub Stays : {X : Type 0} → Stands → Stands → Option Refusal → Option Refusal → Result X Refusal → Type 0
Stays S T old new (Ok x) = Same S T × (new ≡ old)
Stays S T old new (Err e) = Same S T × Keeps old new e

-- what is given
abbrev pub Gives : Stands → Option Refusal → Result (Option EntryRef) Fault → Type 0
Gives S r (Ok (Some e)) = r ≡ None
Gives S r (Ok None) = (r ≡ None) × StandsOnly S []
Gives S r (Err e) = Refuses S r (refusal_of e)

-- the entry that is given is taken, and nothing else
abbrev pub Takes : Stands → Stands → Option Refusal → Option Refusal → Result (Option EntryRef) Fault → Type 0
Takes S T old new (Ok (Some e)) = Precede (entry_ref_view e ∷ []) S T × (new ≡ old)
Takes S T old new (Ok None) = Same S T × (new ≡ old)
Takes S T old new (Err e) = Same S T × Keeps old new (refusal_of e)

-- a value that is given fits each leaf type that was checked
abbrev pub Suited : (LeafType → Type 0) → Result (Option EntryRef) Fault → Type 0
Suited checked (Ok (Some e)) = (t : LeafType) → checked t → MatchOption e.value (Unit {0}) (λ v. fits_leaf t (value_ref_view v) ≡ true)
Suited checked _ = Unit {0}

-- a value alone is given only by a source that was not refused
abbrev pub GivesValue : Option Refusal → Option ValueRef → Type 0
GivesValue r (Some v) = r ≡ None
GivesValue r None = Unit {0}

-- the entry with both levels 0 whose value is given is taken; or nothing is
abbrev pub TakesValue : Stands → Stands → Option Refusal → Option Refusal → Option ValueRef → Type 0
TakesValue S T old new (Some v) = Precede (entry 0 0 (Some (value_ref_view v))) S T × (new ≡ old)
TakesValue S T old new None = Same S T × (new ≡ old)

-- a value that is given alone fits each leaf type that was checked
abbrev pub SuitedValue : (LeafType → Type 0) → Option ValueRef → Type 0
SuitedValue checked (Some v) = (t : LeafType) → checked t → fits_leaf t (value_ref_view v) ≡ true
SuitedValue checked None = Unit {0}
