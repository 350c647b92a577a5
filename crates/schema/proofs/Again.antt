-- The elements of a schema stand for it.
use Rattle.std.proofs.Common.{◌≡◌, ℕ, zero, suc, ◌≤◌, pos, List, ◌∷◌, ◌++◌, Option, Some, None, refl, inl, ap, sym, ◌∙◌, arith}
use Rattle.schema.specs.declared.value.Kind.{Kind}
use Rattle.schema.specs.declared.value.Kind.TheVariants.{Boolean, Int32, Int64, ByteArray, FixedLenByteArray}
use Rattle.schema.specs.declared.value.Repetition.{Repetition}
use Rattle.schema.specs.declared.value.Repetition.TheVariants.{Required, Optional, Repeated}
use Rattle.schema.specs.declared.building.Typed.TheVariants.{Stored}
use Rattle.schema.specs.declared.annotation.GroupAnnotation.{GroupAnnotation}
use Rattle.schema.specs.declared.annotation.GroupAnnotation.TheVariants as group_kind
use Rattle.schema.specs.Annotations.{LeafType, group_annotation_of}
use Rattle.schema.specs.Shape.{Field, leaf, fields, Fields, no_fields, field, count}
use Rattle.schema.specs.Listed.{type_number, type_length, repetition_number, group_converted, leaf_element, group_element, listing, listings, root_name, elements_of}
use Rattle.schema.specs.Law.{HasLength, IsLeafType, IsFilled, IsValid, AreValid, IsSchema}
use Rattle.schema.specs.Listing.{Branch, branch, Branches, no_branches, branches, depth_first, depth_first_each, count_branches, HasChildren, IsCounted, AreCounted, repetition, typed, IsTyped, IsField, AreFields, IsSchemaOf}

-- the tree that is listed
abbrev mutual
  pub tree_of : Field → Branch
  tree_of (leaf n r t) = branch (leaf_element n r t) no_branches
  tree_of (fields n r a fs) = branch (group_element n (Some (pos (repetition_number r))) (group_converted a) (count fs)) (trees_of fs)

  pub trees_of : Fields → Branches
  trees_of no_fields = no_branches
  trees_of (field f fs) = branches (tree_of f) (trees_of fs)

mutual
  pub is_listed : (f : Field) → listing f ≡ depth_first (tree_of f)
  is_listed (leaf n r t) = refl
  is_listed (fields n r a fs) = ap (λ es. group_element n (Some (pos (repetition_number r))) (group_converted a) (count fs) ∷ es) (are_listed fs)

  pub are_listed : (fs : Fields) → listings fs ≡ depth_first_each (trees_of fs)
  are_listed no_fields = refl
  are_listed (field f fs) = ap (λ es. es ++ listings fs) (is_listed f) ∙ ap (λ es. depth_first (tree_of f) ++ es) (are_listed fs)

pub as_many : (fs : Fields) → count_branches (trees_of fs) ≡ count fs
as_many no_fields = refl
as_many (field f fs) = ap suc (as_many fs)

some : (fs : Fields) → IsFilled fs → 1 ≤ count_branches (trees_of fs)
some no_fields p = absurd p
some (field f fs) p = omega arith

pub has_children : (fs : Fields) → IsFilled fs → HasChildren None (Some (pos (count fs))) (count_branches (trees_of fs))
has_children fs p = (some fs p, ap (λ n. Some (pos n)) (sym (as_many fs)))

mutual
  pub is_counted : (f : Field) → IsValid f → IsCounted (tree_of f)
  is_counted (leaf n r t) p = ((refl, inl refl), tt)
  is_counted (fields n r a fs) p = (has_children fs (p.0).some, are_counted fs p.1)

  pub are_counted : (fs : Fields) → AreValid fs → AreCounted (trees_of fs)
  are_counted no_fields p = tt
  are_counted (field f fs) p = (is_counted f p.0, are_counted fs p.1)

own_repetition : (r : Repetition) → repetition (Some (pos (repetition_number r))) ≡ Some r
own_repetition Required = refl
own_repetition Optional = refl
own_repetition Repeated = refl

own_type : (k : Kind) → HasLength k → typed (pos (type_number k)) (type_length k) ≡ Some (Stored k)
own_type Boolean p = refl
own_type Int32 p = refl
own_type Int64 p = refl
own_type ByteArray p = refl
own_type (FixedLenByteArray zero) p = absurd (omega (arith, p.0))
own_type (FixedLenByteArray (suc n)) p = refl

own_annotation : (a : Option GroupAnnotation) → a ≡ group_annotation_of (group_converted a)
own_annotation None = refl
own_annotation (Some group_kind.Map) = refl
own_annotation (Some group_kind.MapKeyValue) = refl
own_annotation (Some group_kind.List) = refl

is_typed : (n : List ℕ) (r : Repetition) (t : LeafType) → IsLeafType t → IsTyped (leaf_element n r t) t
is_typed n r t p = record {
  number = pos (type_number t.kind);
  there = refl;
  stored = own_type t.kind p.length;
  is = ap (λ a. record { kind = t.kind; annotation = a; scale = t.scale; precision = t.precision }) (sym p.decided);
}

mutual
  pub is_field : (f : Field) → IsValid f → IsField (tree_of f) f
  is_field (leaf n r t) p = (refl, own_repetition r, is_typed n r t p)
  is_field (fields n r a fs) p = (refl, own_repetition r, refl, own_annotation a, are_fields fs p.1)

  pub are_fields : (fs : Fields) → AreValid fs → AreFields (trees_of fs) fs
  are_fields no_fields p = tt
  are_fields (field f fs) p = (is_field f p.0, are_fields fs p.1)

pub a_schema_is_its_elements : (fs : Fields) → IsSchema fs → IsSchemaOf (elements_of fs) fs
a_schema_is_its_elements fs p = record {
  root = group_element root_name None None (count fs);
  below = trees_of fs;
  listed = record { listed = ap (λ es. group_element root_name None None (count fs) ∷ es) (are_listed fs); counted = (has_children fs (p.0).some, are_counted fs p.1); group = refl };
  stands_for = are_fields fs p.1;
  valid = p;
}
