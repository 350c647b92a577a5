-- An OPTIONAL value that is not null.
use Rattle.std.proofs.Common.{◌≡◌, rules, Bool, refl}
use Rattle.serde_json.specs.Data.{Data}
use Rattle.schema.specs.declared.value.Value.{Value, the_lemmas as of_schema}
use Rattle.schema.specs.declared.value.Value.TheVariants.{Null}
use Rattle.schema.specs.declared.value.Repetition.{Repetition}
use Rattle.schema.specs.declared.value.Repetition.TheVariants.{Optional}
use Rattle.schema.specs.Values.{ValueTree, null, boolean, integer, bytes, group, list, view as value_view}
use Rattle.schema.specs.Shape.{Field, leaf, fields, repetition_of}
use Rattle.schema.specs.Fits.{fits_as, fits_leaf, is_group, fits_each, fits, fits_inside}
use Rattle.rowtext.specs.Json.{json_as, leaf_json_as, object_json, members_json_as, inside_json_as, field_json_as}

-- only null is shown as null
pub not_null : (w : Value) → (w ≡ Null → ⊥) → value_view w ≡ null → ⊥
not_null w h e = search (rules, of_schema)

optional_json : (shown : ValueTree → Data) (r : Repetition) (v : ValueTree) → r ≡ Optional → (v ≡ null → ⊥) → json_as r shown v ≡ shown v
optional_json shown r null e h = absurd (h refl)
optional_json shown r (boolean b) e h = rw e refl
optional_json shown r (integer z) e h = rw e refl
optional_json shown r (bytes s) e h = rw e refl
optional_json shown r (group vs) e h = rw e refl
optional_json shown r (list vs) e h = rw e refl

optional_fits : (p : ValueTree → Bool) (r : Repetition) (v : ValueTree) → r ≡ Optional → (v ≡ null → ⊥) → fits_as r p v ≡ p v
optional_fits p r null e h = absurd (h refl)
optional_fits p r (boolean b) e h = rw e refl
optional_fits p r (integer z) e h = rw e refl
optional_fits p r (bytes s) e h = rw e refl
optional_fits p r (group vs) e h = rw e refl
optional_fits p r (list vs) e h = rw e refl

pub present_json : (texts : Bool) (f : Field) (v : ValueTree) → repetition_of f ≡ Optional → (v ≡ null → ⊥) → field_json_as texts f v ≡ inside_json_as texts f v
present_json texts (leaf n r t) v e h = optional_json (leaf_json_as texts t) r v e h
present_json texts (fields n r a fs) v e h = optional_json (object_json (members_json_as texts fs)) r v e h

pub present_fits : (f : Field) (v : ValueTree) → repetition_of f ≡ Optional → (v ≡ null → ⊥) → fits f v ≡ fits_inside f v
present_fits (leaf n r t) v e h = optional_fits (fits_leaf t) r v e h
present_fits (fields n r a fs) v e h = optional_fits (is_group (fits_each fs)) r v e h
