-- A field more at the end of a schema, by its elements; and schemas that are the first fields of another one.
use Rattle.std.specs.Prelude.{◌≡◌, ◌≢◌, ◌⊎◌, ℕ, suc, IsTrue, List, [], ◌∷◌, ◌++◌, None, Some}
use Rattle.bits.specs.declared.refusal.Refusal.{Refusal}
use Rattle.bits.specs.declared.refusal.Refusal.TheVariants as refusal
use Rattle.schema.specs.declared.value.Repetition.TheVariants.{Optional}
use Rattle.schema.specs.Elements.{Element}
use Rattle.schema.specs.Values.{ValueTrees}
use Rattle.schema.specs.Shape.{Field, Fields, count, repetition_of}
use Rattle.schema.specs.Fits.{fits_each}
use Rattle.schema.specs.Law.{IsWithinLimits}
use Rattle.schema.specs.Listed.{group_element, root_name, listings}
use Rattle.schema.specs.Listing.{IsSchemaOf, repetition}
use Rattle.schema.specs.Faults.{HasFault}
use Rattle.schema.specs.Fronts.{first_fields, IsFront, with_field, with_null}
use Rattle.schema.specs.Keys.{KeyColumn, AreKeys, without_keys, key_of_row}

-- the elements of a schema, and then these, under a root with a field more
abbrev pub with_elements : Fields → List Element → List Element
with_elements fs elements = group_element root_name None None (suc (count fs)) ∷ (listings fs ++ elements)

-- the elements are one OPTIONAL field that the schema can take at its end: its name is new to the schema, and no limit is exceeded with it
pub record IsColumnFor (fs : Fields) (elements : List Element) (f : Field) : Type 0 where
  pub stands_for : IsSchemaOf (with_elements fs elements) (with_field fs f)
  pub within : IsWithinLimits (with_field fs f)
  pub optional : repetition_of f ≡ Optional

-- there is a first element, and it is not OPTIONAL
abbrev pub IsNotOptional : List Element → Type 0
IsNotOptional [] = ⊥
IsNotOptional (e ∷ elements) = repetition e.repetition_type ≢ Some Optional

-- why elements are no field that the schema can take at its end: a fault of the longer list, or Schema if the field is not OPTIONAL
abbrev pub IsColumnFault : Fields → List Element → Refusal → Type 0
IsColumnFault fs elements e = HasFault (with_elements fs elements) e ⊎ ((e ≡ refusal.Schema) × IsNotOptional elements)

-- the fields `fs` are the first of the fields `gs`, in order: all of them, or fewer
abbrev pub IsFrontOf : Fields → Fields → Type 0
IsFrontOf fs gs = fs ≡ first_fields (count fs) gs

-- ---- what holds of schemas with a field more

-- a row that fits some fields fits them with an OPTIONAL field more, when it has Null at its end
abbrev pub GrownRowsFit : Type 0
GrownRowsFit = (fs : Fields) (f : Field) (row : ValueTrees) → repetition_of f ≡ Optional → IsTrue (fits_each fs row) → IsTrue (fits_each (with_field fs f) (with_null row))

-- if a file can have the first n fields of a table, it still can when the table gets an OPTIONAL field more, and they are the same fields
abbrev pub FrontsStay : Type 0
FrontsStay = (n : ℕ) (fs : Fields) (f : Field) → IsFront n fs → repetition_of f ≡ Optional → IsFront n (with_field fs f) × (first_fields n (with_field fs f) ≡ first_fields n fs)

-- with the field f at the end: the key columns are still key columns, f is the last of the files' fields, and keys of rows are the same
pub record KeysStayThere (keys : List KeyColumn) (fs : Fields) (f : Field) : Type 0 where
  pub are_keys : AreKeys keys (with_field fs f)
  pub besides : without_keys keys (with_field fs f) ≡ with_field (without_keys keys fs) f
  pub keyed : (row : ValueTrees) → key_of_row keys (with_null row) ≡ key_of_row keys row

-- key columns of a table stay key columns when it gets a field more at its end, and the keys of its rows stay
abbrev pub KeysStay : Type 0
KeysStay = (keys : List KeyColumn) (fs : Fields) (f : Field) → AreKeys keys fs → KeysStayThere keys fs f

-- elements are at most one field that the schema can take at its end
abbrev pub ColumnsAreOne : Type 0
ColumnsAreOne = (fs : Fields) (elements : List Element) (f g : Field) → IsColumnFor fs elements f → IsColumnFor fs elements g → f ≡ g

-- fields are the first of these fields with one more
abbrev pub GrownHaveFronts : Type 0
GrownHaveFronts = (fs : Fields) (f : Field) → IsFrontOf fs (with_field fs f)

-- the first fields of the first fields of a schema are first fields of the schema
abbrev pub FrontsOfFronts : Type 0
FrontsOfFronts = (fs gs hs : Fields) → IsFrontOf fs gs → IsFrontOf gs hs → IsFrontOf fs hs
