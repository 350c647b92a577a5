-- Columns with more entries at their ends: what a value gives to each leaf at and below its field.
use Rattle.std.specs.Prelude.{◌≡◌, ℕ, zero, suc, Bool, false, List, [], ◌∷◌, ◌++◌, map, None}
use Rattle.bits.specs.declared.refusal.Refusal.{Refusal}
use Rattle.bits.specs.declared.refusal.Refusal.TheVariants.{RowShape, Memory}
use Rattle.schema.specs.Values.{ValueTree, ValueTrees, group}
use Rattle.schema.specs.Shape.{Field, Fields, repetition_of}
use Rattle.schema.specs.Stripe.{Entry, entry, Leaf, leaves, leaves_from, stripe, stripe_as, list_items, later_items}
use Rattle.shred.specs.declared.column.ColumnRef.{ColumnRef}
use Rattle.shred.specs.declared.field.Levels.{Levels}
use Rattle.shred.specs.Columns.{column_refs_view}

-- columns, each as the list of its entries
abbrev pub Columns : Type 0
Columns = List (List Entry)

-- each of the first columns with its stripe at the end; further columns stay as they are
abbrev pub grown : Columns → Columns → Columns
grown [] ss = []
grown (c ∷ cs) [] = c ∷ cs
grown (c ∷ cs) (s ∷ ss) = (c ++ s) ∷ grown cs ss

-- n columns without entries
abbrev pub nils : ℕ → Columns
nils zero = []
nils (suc n) = [] ∷ nils n

-- the columns become these stripes longer
abbrev pub Grows : Columns → List ColumnRef → List ColumnRef → Type 0
Grows ss old new = column_refs_view new ≡ grown (column_refs_view old) ss

-- the repetition and the definition level of a value's first entry, and how many REPEATED fields are on the path to it
abbrev pub levels_at : ℕ → ℕ → ℕ → Levels
levels_at r d k = record { repetition = r; definition = d; repeated = k }

-- what the value of a field gives to each leaf at and below it, its repetition aside
abbrev pub stripes_inside : Field → ValueTree → Levels → Columns
stripes_inside f v x = map (λ (l : Leaf). stripe l.steps v x.repetition x.definition x.repeated) (leaves f)

-- what the value of a field gives to each leaf at and below it
abbrev pub stripes : Field → ValueTree → Levels → Columns
stripes f v x = map (λ (l : Leaf). stripe_as (repetition_of f) (stripe l.steps) v x.repetition x.definition x.repeated) (leaves f)

-- what the items of a REPEATED field's list give to each leaf at and below it
abbrev pub stripes_items : Field → ValueTrees → Levels → Columns
stripes_items f vs x = map (λ (l : Leaf). list_items (stripe l.steps) vs x.repetition x.definition x.repeated) (leaves f)

-- what the items after the first one of a REPEATED field's list give to each leaf at and below it
abbrev pub stripes_later : Field → ValueTrees → ℕ → ℕ → Columns
stripes_later f vs d k = map (λ (l : Leaf). later_items (stripe l.steps) vs d k) (leaves f)

-- what a group of these values gives to the leaves below some of its fields, the first of which has this place
abbrev pub stripes_each : ℕ → Fields → ValueTrees → Levels → Columns
stripes_each i fs vs x = map (λ (l : Leaf). stripe l.steps (group vs) x.repetition x.definition x.repeated) (leaves_from i fs)

-- an entry without value for each leaf at and below a field
abbrev pub absences : Field → Levels → Columns
absences f x = map (λ (l : Leaf). entry x.repetition x.definition None) (leaves f)

-- an entry without value for each leaf at and below some fields, the first of which has this place
abbrev pub absences_each : ℕ → Fields → Levels → Columns
absences_each i fs x = map (λ (l : Leaf). entry x.repetition x.definition None) (leaves_from i fs)

-- refused RowShape only where the value does not fit, otherwise only when out of memory
abbrev pub IsMisfit : Bool → Refusal → Type 0
IsMisfit fit RowShape = fit ≡ false
IsMisfit fit Memory = Unit {0}
IsMisfit fit _ = ⊥
