-- What a reader of values off the fronts of columns gives.
use Rattle.std.specs.Prelude.{ℕ, ◌+◌, List}
use Rattle.bits.specs.declared.refusal.Refusal.{Refusal}
use Rattle.schema.specs.Values.{ValueTree, ValueTrees}
use Rattle.schema.specs.Shape.{Field, Fields}
use Rattle.schema.specs.Stripe.{Entry}
use Rattle.assemble.specs.declared.place.Place.{Place}
use Rattle.assemble.specs.Columns.{Columns, Fronts, AreAlike, Want, AllSuit, Tells}
use Rattle.assemble.specs.Standing.{Onward, Backward}
use Rattle.assemble.specs.inner.Fronts.{AreEnds, stripes, stripes_inside, stripes_items, stripes_each, wants, wants_inside, wants_each, Fit, FitInside, FitItems, FitEach}

-- some fitting value has the levels at the front of the columns; its stripes end where `rests` begin
pub record HasLevels {A : Type 0} (P : A → Type 0) (St : A → Columns) (k : ℕ) (old rests : Columns) : Type 0 where
  pub value : A
  pub fits : P value
  pub whole : Columns
  pub alike : AreAlike whole old
  pub front : Fronts (St value) whole rests
  pub ends : AreEnds k (St value) rests

-- x stood at the front, and no value of other levels
pub record IsRead {A : Type 0} (P : A → Type 0) (St : A → Columns) (k : ℕ) (old new : Columns) (x : A) : Type 0 where
  pub fits : P x
  pub front : Fronts (St x) old new
  pub alone : (rests : Columns) → HasLevels P St k old rests → AreAlike rests new

-- Levels: no fitting value has these levels; Value: an entry is not as it should be
abbrev pub IsFaulty : {A : Type 0} → (A → Type 0) → (A → Columns) → ℕ → List Want → Columns → Refusal → Type 0
IsFaulty P St k ws old = Tells ((rests : Columns) → HasLevels P St k old rests → ⊥) (AllSuit ws old → ⊥)

-- x fits, and its stripes were taken off the columns
pub record Reads {A V : Type 0} (S : A → List Entry → Type 0) (P : V → Type 0) (St : V → Columns) (k : ℕ) (old new : List A) (x : V) : Type 0 where
  pub fits : P x
  pub onward : Onward S old new (λ before after. IsRead P St k before after x)
  pub backward : Backward S old new (Fronts (St x))

-- the value of a field is taken at a place
abbrev pub ReadsField : {A : Type 0} → (A → List Entry → Type 0) → Field → Place → List A → List A → ValueTree → Type 0
ReadsField S f p old new v = Reads S (Fit f) (stripes f p.repetition p.definition p.own) p.own old new v

-- the fault for which the value of a field is not taken at a place: Levels or Value, as `IsFaulty` says
abbrev pub IsFieldFaulty : Field → Place → Columns → Refusal → Type 0
IsFieldFaulty f p = IsFaulty (Fit f) (stripes f p.repetition p.definition p.own) p.own (wants f p.definition)

-- the value of a field is taken at a place, its repetition aside
abbrev pub ReadsInside : {A : Type 0} → (A → List Entry → Type 0) → Field → Place → List A → List A → ValueTree → Type 0
ReadsInside S f p old new v = Reads S (FitInside f) (stripes_inside f p.repetition p.definition p.own) p.own old new v

-- the fault for which the value of a field, its repetition aside, is not taken at a place: Levels or Value, as `IsFaulty` says
abbrev pub IsInsideFaulty : Field → Place → Columns → Refusal → Type 0
IsInsideFaulty f p = IsFaulty (FitInside f) (stripes_inside f p.repetition p.definition p.own) p.own (wants_inside f p.definition)

-- the items of a field's list, one at least, are taken at a place
abbrev pub ReadsItems : {A : Type 0} → (A → List Entry → Type 0) → Field → Place → List A → List A → ValueTrees → Type 0
ReadsItems S f p old new vs = Reads S (FitItems f) (stripes_items f p.repetition p.definition p.own) p.own old new vs

-- the fault for which the items of a field's list, one at least, are not taken at a place: Levels or Value, as `IsFaulty` says
abbrev pub AreItemsFaulty : Field → Place → Columns → Refusal → Type 0
AreItemsFaulty f p = IsFaulty (FitItems f) (stripes_items f p.repetition p.definition p.own) p.own (wants_inside f (p.definition + 1))

-- the values of some fields are taken at a place
abbrev pub ReadsEach : {A : Type 0} → (A → List Entry → Type 0) → Fields → Place → List A → List A → ValueTrees → Type 0
ReadsEach S fs p old new vs = Reads S (FitEach fs) (stripes_each fs p.repetition p.definition p.own) p.own old new vs

-- the fault for which the values of some fields are not taken at a place: Levels or Value, as `IsFaulty` says
abbrev pub AreEachFaulty : Fields → Place → Columns → Refusal → Type 0
AreEachFaulty fs p = IsFaulty (FitEach fs) (stripes_each fs p.repetition p.definition p.own) p.own (wants_each fs p.definition)
