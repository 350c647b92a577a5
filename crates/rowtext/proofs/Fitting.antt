-- A row that is read fits.
use Rattle.std.proofs.Common.{◌≡◌, ◌&&◌, Bool, true, false, Option, Some, None, option_map, option_and_then, if◌then◌else◌, refl, sym, subst, ◌∙◌}
use Rattle.std.specs.Prelude.{IsTrue}
use Rattle.std.proofs.lemmas.Bool.{and_from as both}
use Rattle.serde_json.specs.Data.{Data, Items, no_items, item, Members, no_members, member, null, boolean, number, string, array, object}
use Rattle.serde_json.specs.Find.{get_member}
use Rattle.schema.specs.declared.value.Repetition.{Repetition}
use Rattle.schema.specs.declared.value.Repetition.TheVariants.{Required, Optional, Repeated}
use Rattle.schema.specs.Annotations.{LeafType}
use Rattle.schema.specs.Values.{ValueTree, ValueTrees, no_values, value, group, list, each}
use Rattle.schema.specs.Values as row
use Rattle.schema.specs.Shape.{Field, leaf, fields, Fields, no_fields, field, name_of}
use Rattle.schema.specs.Fits.{fits_leaf, fits_as, is_group, fits, fits_each}
use Rattle.leaftext.specs.Forms.{form_if}
use Rattle.rowtext.specs.Reading.{scalar_by, leaf_read_as, value_before, items_read, read_as, object_read, without, none_left, field_read_as, members_read_as}

-- the value is there, and passes the test
abbrev Passes : {A : Type 0} → (A → Bool) → Option A → Type 0
Passes p None = Unit {0}
Passes p (Some x) = p x ≡ true

passes_test : (b : Bool) (p : ValueTree → Bool) (v : ValueTree) → p v ≡ b → Passes p (if b then Some v else None)
passes_test true p v e = e
passes_test false p v e = tt

leaf_fits : (t : LeafType) (o : Option ValueTree) → Passes (fits_leaf t) (option_and_then (λ v. if fits_leaf t v then Some v else None) o)
leaf_fits t None = tt
leaf_fits t (Some v) = passes_test (fits_leaf t v) (fits_leaf t) v refl

joins : (p : ValueTree → Bool) (q ps : ValueTrees → Bool) → ((v : ValueTree) (vs : ValueTrees) → ps (value v vs) ≡ (p v && q vs)) → (o : Option ValueTree) (os : Option ValueTrees) → Passes p o → Passes q os → Passes ps (value_before o os)
joins p q ps split None os x y = tt
joins p q ps split (Some v) None x y = tt
joins p q ps split (Some v) (Some vs) x y = split v vs ∙ both (p v) (q vs) x y

items_fit : (inside : Data → Option ValueTree) (p : ValueTree → Bool) → ((d : Data) → Passes p (inside d)) → (ds : Items) → Passes (each p) (items_read inside ds)
items_fit inside p one no_items = refl
items_fit inside p one (item d ds) = joins p (each p) (each p) (λ v vs. refl) (inside d) (items_read inside ds) (one d) (items_fit inside p one ds)

optional_fits : (p : ValueTree → Bool) (o : Option ValueTree) → Passes p o → Passes (fits_as Optional p) o
optional_fits p None h = tt
optional_fits p (Some row.null) h = refl
optional_fits p (Some (row.boolean b)) h = h
optional_fits p (Some (row.integer z)) h = h
optional_fits p (Some (row.bytes s)) h = h
optional_fits p (Some (group vs)) h = h
optional_fits p (Some (list vs)) h = h

list_fits : (p : ValueTree → Bool) (o : Option ValueTrees) → Passes (each p) o → Passes (fits_as Repeated p) (option_map list o)
list_fits p None h = tt
list_fits p (Some vs) h = h

as_fits : (r : Repetition) (inside : Data → Option ValueTree) (p : ValueTree → Bool) → ((d : Data) → Passes p (inside d)) → (o : Option Data) → Passes (fits_as r p) (read_as r inside o)
as_fits Required inside p one None = tt
as_fits Required inside p one (Some d) = one d
as_fits Optional inside p one None = refl
as_fits Optional inside p one (Some null) = refl
as_fits Optional inside p one (Some (boolean b)) = optional_fits p _ (one (boolean b))
as_fits Optional inside p one (Some (number n)) = optional_fits p _ (one (number n))
as_fits Optional inside p one (Some (string s)) = optional_fits p _ (one (string s))
as_fits Optional inside p one (Some (array ds)) = optional_fits p _ (one (array ds))
as_fits Optional inside p one (Some (object ms)) = optional_fits p _ (one (object ms))
as_fits Repeated inside p one None = refl
as_fits Repeated inside p one (Some null) = tt
as_fits Repeated inside p one (Some (boolean b)) = tt
as_fits Repeated inside p one (Some (number n)) = tt
as_fits Repeated inside p one (Some (string s)) = tt
as_fits Repeated inside p one (Some (array ds)) = list_fits p (items_read inside ds) (items_fit inside p one ds)
as_fits Repeated inside p one (Some (object ms)) = tt

group_fits_at : (p : ValueTrees → Bool) (o : Option ValueTrees) → Passes p o → Passes (is_group p) (option_map group o)
group_fits_at p None h = tt
group_fits_at p (Some vs) h = h

group_fits : (all : Members → Option ValueTrees) (p : ValueTrees → Bool) → ((ms : Members) → Passes p (all ms)) → (d : Data) → Passes (is_group p) (object_read all d)
group_fits all p one null = tt
group_fits all p one (boolean b) = tt
group_fits all p one (number n) = tt
group_fits all p one (string s) = tt
group_fits all p one (array ds) = tt
group_fits all p one (object ms) = group_fits_at p (all ms) (one ms)

end_fits : (ms : Members) → Passes (fits_each no_fields) (none_left ms)
end_fits no_members = refl
end_fits (member k d ms) = tt

module _ (texts : Bool) where
  mutual
    field_fits : (f : Field) (o : Option Data) → Passes (fits f) (field_read_as texts f o)
    field_fits (leaf n r t) o = as_fits r (leaf_read_as texts t) (fits_leaf t) (λ d. leaf_fits t (scalar_by (form_if texts t) t d)) o
    field_fits (fields n r a fs) o = as_fits r (object_read (members_read_as texts fs)) (is_group (fits_each fs)) (group_fits (members_read_as texts fs) (fits_each fs) (members_fit fs)) o

    members_fit : (fs : Fields) (ms : Members) → Passes (fits_each fs) (members_read_as texts fs ms)
    members_fit no_fields ms = end_fits ms
    members_fit (field f fs) ms =
        joins (fits f) (fits_each fs) (fits_each (field f fs)) (λ v vs. refl) (field_read_as texts f (get_member (name_of f) ms)) (members_read_as texts fs (without (name_of f) ms)) (field_fits f (get_member (name_of f) ms)) (members_fit fs (without (name_of f) ms))

  -- what is read of the members fits
  pub read_fits : (fs : Fields) (ms : Members) (vs : ValueTrees) → Some vs ≡ members_read_as texts fs ms → IsTrue (fits_each fs vs)
  read_fits fs ms vs e = subst (Passes (fits_each fs)) (sym e) (members_fit fs ms)
