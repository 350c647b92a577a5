-- A schema cut to some of its leaves, and rows cut with it: these leaves, and the groups above them.
use Rattle.std.specs.Prelude.{◌≡◌, ℕ, suc, ◌+◌, ◌<◌, Bool, false, List, [], ◌∷◌, length, get_or, map, Option, Some, None, if◌then◌else◌, nat_eq}
use Rattle.std.specs.List.{AllByRecursion, list_any}
use Rattle.bits.specs.declared.refusal.Refusal.{Refusal}
use Rattle.bits.specs.declared.refusal.Refusal.TheVariants.{Schema, Memory}
use Rattle.schema.specs.declared.value.Repetition.{Repetition}
use Rattle.schema.specs.declared.value.Repetition.TheVariants.{Repeated}
use Rattle.schema.specs.declared.annotation.GroupAnnotation.{GroupAnnotation}
use Rattle.schema.specs.Annotations.{LeafType}
use Rattle.schema.specs.Values.{ValueTree, group, list, ValueTrees, no_values, value as item}
use Rattle.schema.specs.Shape.{Field, leaf, fields, Fields, no_fields, field}
use Rattle.schema.specs.Fits.{RowsFit}
use Rattle.schema.specs.Stripe.{Leaf, leaves, leaves_of, columns}

-- the group of the fields that are kept; None if there are none
abbrev pub group_of : List ℕ → Repetition → Option GroupAnnotation → Fields → Option Field
group_of n r a no_fields = None
group_of n r a (field f fs) = Some (fields n r a (field f fs))

-- what is kept of a field, and then these fields
abbrev pub kept : Option Field → Fields → Fields
kept None fs = fs
kept (Some f) fs = field f fs

-- what is kept of a field, and of some fields: a leaf exactly when it is wanted; the first leaf below has this place
abbrev mutual
  pub cut : (ℕ → Bool) → ℕ → Field → Option Field
  cut wanted at (leaf n r t) = if wanted at then Some (leaf n r t) else None
  cut wanted at (fields n r a fs) = group_of n r a (cut_each wanted at fs)

  pub cut_each : (ℕ → Bool) → ℕ → Fields → Fields
  cut_each wanted at no_fields = no_fields
  cut_each wanted at (field f fs) = kept (cut wanted at f) (cut_each wanted (at + length (leaves f)) fs)

-- whether an index is one of these places
abbrev pub is_among : List ℕ → ℕ → Bool
is_among places at = list_any (λ place. nat_eq place at) places

-- whether there is a mark at this place; there is none past the end
abbrev pub is_marked : List Bool → ℕ → Bool
is_marked marks at = get_or marks at false

-- there are `count` places, with marks at exactly the given ones
pub record AreMarks (places : List ℕ) (count : ℕ) (marks : List Bool) : Type 0 where
  pub size : length marks ≡ count
  pub each : (at : ℕ) → is_marked marks at ≡ is_among places at

-- the schema of the leaves at these places
abbrev pub cut_to : List ℕ → Fields → Fields
cut_to places fs = cut_each (is_among places) 0 fs

-- places of leaves, one at least
pub record ArePlaces (fs : Fields) (places : List ℕ) : Type 0 where
  pub some : 0 < length places
  pub there : AllByRecursion (λ place. place < length (leaves_of fs)) places

-- the schema is cut to the leaves at these places
pub record IsCutTo (places : List ℕ) (fs gs : Fields) : Type 0 where
  pub places_are : ArePlaces fs places
  pub is : gs ≡ cut_to places fs

-- what a cut is refused for: a place where no leaf is, or no place
abbrev pub IsCutFault : List ℕ → Fields → Refusal → Type 0
IsCutFault places fs Schema = ArePlaces fs places → ⊥
IsCutFault places fs Memory = Unit {0}
IsCutFault places fs _ = ⊥

-- the items of a list, each cut by `c`
abbrev pub cut_items : (ValueTree → ValueTree) → ValueTrees → ValueTrees
cut_items c no_values = no_values
cut_items c (item v vs) = item (c v) (cut_items c vs)

-- the value of a field with this repetition, cut by `c`: each item of a REPEATED field's list, else the value itself
abbrev pub cut_as : Repetition → (ValueTree → ValueTree) → ValueTree → ValueTree
cut_as Repeated c (list vs) = list (cut_items c vs)
cut_as Repeated c v = v
cut_as _ c v = c v

-- a group, with its values cut by `c`; null, which is no group, stays
abbrev pub cut_group : (ValueTrees → ValueTrees) → ValueTree → ValueTree
cut_group c (group vs) = group (c vs)
cut_group c v = v

-- the value of a field if the field is kept, and then these values
abbrev pub kept_value : Option Field → ValueTree → ValueTrees → ValueTrees
kept_value None v vs = vs
kept_value (Some f) v vs = item v vs

-- what is kept of the value of a field, and of the values of some fields
abbrev mutual
  pub cut_value : (ℕ → Bool) → ℕ → Field → ValueTree → ValueTree
  cut_value wanted at (leaf n r t) v = v
  cut_value wanted at (fields n r a fs) v = cut_as r (cut_group (cut_values wanted at fs)) v

  pub cut_values : (ℕ → Bool) → ℕ → Fields → ValueTrees → ValueTrees
  cut_values wanted at no_fields vs = no_values
  cut_values wanted at (field f fs) no_values = no_values
  cut_values wanted at (field f fs) (item v vs) = kept_value (cut wanted at f) (cut_value wanted at f v) (cut_values wanted (at + length (leaves f)) fs vs)

-- the rows of a schema, cut to the leaves at these places
abbrev pub cut_rows : List ℕ → Fields → List ValueTrees → List ValueTrees
cut_rows places fs rows = map (cut_values (is_among places) 0 fs) rows

-- the wanted of some things, the first of which has this place
abbrev pub wanted_of : {A : Type 0} → (ℕ → Bool) → ℕ → List A → List A
wanted_of wanted at [] = []
wanted_of wanted at (x ∷ xs) = if wanted at then x ∷ wanted_of wanted (suc at) xs else wanted_of wanted (suc at) xs

-- the things at these places, the first of which is 0, in the order of the things; a place that is given twice counts once
abbrev pub at_places : {A : Type 0} → List ℕ → List A → List A
at_places places xs = wanted_of (is_among places) 0 xs

-- rows cut to some leaves fit the cut schema
abbrev pub CutRowsFit : Type 0
CutRowsFit = (places : List ℕ) (fs : Fields) (rows : List ValueTrees) → RowsFit fs rows → RowsFit (cut_to places fs) (cut_rows places fs rows)

-- rows cut to some leaves have exactly the columns of these leaves, in their order
abbrev pub CutRowsHaveColumns : Type 0
CutRowsHaveColumns = (places : List ℕ) (fs : Fields) (rows : List ValueTrees) → columns (cut_to places fs) (cut_rows places fs rows) ≡ at_places places (columns fs rows)

-- what a leaf is, apart from its place in its group and its groups' places
pub record Shown : Type 0 where
  pub path : List (List ℕ)
  pub leaf_type : LeafType
  pub greatest_repetition : ℕ
  pub greatest_definition : ℕ

-- a leaf without its steps: its path, its type and its greatest levels
abbrev pub shown : Leaf → Shown
shown l = record { path = l.path; leaf_type = l.leaf_type; greatest_repetition = l.greatest_repetition; greatest_definition = l.greatest_definition }

-- the leaves of the cut schema are the wanted ones, with their paths, types and greatest levels
abbrev pub CutHasLeaves : Type 0
CutHasLeaves = (places : List ℕ) (fs : Fields) → map shown (leaves_of (cut_to places fs)) ≡ map shown (at_places places (leaves_of fs))
