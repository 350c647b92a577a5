-- How a list of elements is read: the trees at its beginning, one after another.
use Rattle.std.specs.Prelude.{◌≡◌, ◌≤◌, ℕ, zero, suc, nat_lt, nat_le, ℤ, pos, Bool, true, false, ◌&&◌, List, [], ◌∷◌, ◌++◌, drop, Option, Some, None, string_bytes, ◌<◌, IsTrue}
use Rattle.bits.specs.declared.refusal.Refusal.{Refusal}
use Rattle.bits.specs.declared.refusal.Refusal.TheVariants.{Schema, Float, Int96, Limit, Memory}
use Rattle.std.specs.Str.{is_utf8}
use Rattle.thrift_compact.specs.Tree.{Fields as Struct, fields_nest}
use Rattle.thrift_compact.specs.Writable.{HasBytes}
use Rattle.schema.specs.Annotations.{Annotation, other_logical, group_annotation_of}
use Rattle.schema.specs.declared.building.Typed.{Typed}
use Rattle.schema.specs.declared.building.Typed.TheVariants.{Stored}
use Rattle.schema.specs.declared.value.Repetition.{Repetition}
use Rattle.schema.specs.declared.element.Element.{Element as CodeElement}
use Rattle.schema.specs.Elements.{Element, elements_view}
use Rattle.schema.specs.Shape.{Field, leaf, fields, Fields, no_fields, field, name_of}
use Rattle.schema.specs.Law.{IsValid, IsLeafType, HasLength, AllDiffer, names}
use Rattle.schema.specs.Listing.{typed, IsTyped, IsSoundType, Branch, branch, Branches, no_branches, branches, count_branches, IsField, IsSound, AreSound, HasLeaf, HasLeafAmong, is_floating, is_int96, height, height_of}
use Rattle.schema.specs.Reading.{tall}

-- a number that an element says; 0 if it is absent or negative
abbrev pub amount : Option ℤ → ℕ
amount (Some (pos n)) = n
amount _ = 0

-- how many children an element says that it has, by its type and its num_children; one with a type has none
abbrev pub children_by : Option ℤ → Option ℤ → ℕ
children_by (Some t) c = 0
children_by None c = amount c

-- how many children an element says that it has; a leaf has none
abbrev pub children : Element → ℕ
children e = children_by e.kind e.num_children

-- whether a group may say this num_children: at least 1
abbrev pub is_group_count : Option ℤ → Bool
is_group_count c = nat_lt 0 (amount c)

-- whether a leaf may say this num_children: 0, or nothing
abbrev pub is_leaf_count : Option ℤ → Bool
is_leaf_count None = true
is_leaf_count (Some (pos zero)) = true
is_leaf_count _ = false

-- whether an element may say this num_children, by whether it has a type
abbrev pub may_have : Option ℤ → Option ℤ → Bool
may_have (Some t) c = is_leaf_count c
may_have None c = is_group_count c

-- the first n of some trees; all of them if there are fewer
abbrev pub take_branches : ℕ → Branches → Branches
take_branches zero bs = no_branches
take_branches (suc n) no_branches = no_branches
take_branches (suc n) (branches b bs) = branches b (take_branches n bs)

-- the trees after the first n; none if there are no more than n
abbrev pub drop_branches : ℕ → Branches → Branches
drop_branches zero bs = bs
drop_branches (suc n) no_branches = no_branches
drop_branches (suc n) (branches b bs) = drop_branches n bs

-- the trees of a list: an element takes its children from those after it
abbrev pub forest : List Element → Branches
forest [] = no_branches
forest (e ∷ es) = branches (branch e (take_branches (children e) (forest es))) (drop_branches (children e) (forest es))

-- the trees from a place of the list on
abbrev pub trees_from : ℕ → List CodeElement → Branches
trees_from at elements = forest (elements_view (drop at elements))

-- whether each element of the list may say its num_children, and has them after it
abbrev pub well_formed : List Element → Bool
well_formed [] = true
well_formed (e ∷ es) = (may_have e.kind e.num_children && nat_le (children e) (count_branches (forest es))) && well_formed es

-- the valid field that a tree stands for, with at most `deep` fields on a path
pub record IsRead (deep : ℕ) (b : Branch) (f : Field) : Type 0 where
  pub stands_for : IsField b f
  pub valid : IsValid f
  pub text : IsTrue (is_utf8 (name_of f))
  pub shallow : tall f ≤ deep

-- the fields that some trees stand for, one for each, with at most `deep` fields on a path
abbrev pub AreRead : ℕ → Branches → Fields → Type 0
AreRead deep no_branches no_fields = Unit {0}
AreRead deep (branches b bs) (field f fs) = IsRead deep b f × AreRead deep bs fs
AreRead deep _ _ = ⊥

-- what a tree may be refused for, where at most `deep` fields may be on a path
abbrev pub IsFaultOf : ℕ → Branch → Refusal → Type 0
IsFaultOf deep b Schema = IsSound b → ⊥
IsFaultOf deep b (Float path) = HasLeaf is_floating b (string_bytes path)
IsFaultOf deep b (Int96 path) = HasLeaf is_int96 b (string_bytes path)
IsFaultOf deep b Limit = deep < height b
IsFaultOf deep b Memory = Unit {0}
IsFaultOf deep b _ = ⊥

-- what some trees may be refused for, where at most `deep` fields may be on a path
abbrev pub IsFaultAmong : ℕ → Branches → Refusal → Type 0
IsFaultAmong deep bs Schema = AreSound bs → ⊥
IsFaultAmong deep bs (Float path) = HasLeafAmong is_floating bs (string_bytes path)
IsFaultAmong deep bs (Int96 path) = HasLeafAmong is_int96 bs (string_bytes path)
IsFaultAmong deep bs Limit = deep < height_of bs
IsFaultAmong deep bs Memory = Unit {0}
IsFaultAmong deep bs _ = ⊥

-- P holds of the first of some trees and of those after it, if there is a first
abbrev pub OnFirst : Branches → (Branch → Branches → Type 0) → Type 0
OnFirst no_branches P = Unit {0}
OnFirst (branches b bs) P = P b bs

-- the struct of a logicalType that counts; None if there is a converted type
abbrev pub kept_struct : Option ℤ → Option Struct → Option Struct
kept_struct None s = s
kept_struct (Some z) s = None

-- a struct that is kept nests at most 29 deep, and some bytes have it
abbrev pub KeepsWritten : Annotation → Type 0
KeepsWritten (other_logical s) = (fields_nest s ≤ 29) × HasBytes s
KeepsWritten _ = Unit {0}

-- the field is the leaf of an element, with this name and this repetition
abbrev pub IsLeafOf : Element → List ℕ → Repetition → Field → Type 0
IsLeafOf e n r (leaf m s t) = (m ≡ n) × (s ≡ r) × IsTyped e t × IsLeafType t
IsLeafOf e n r (fields m s a fs) = ⊥

-- what the struct of an annotation may be refused for: Schema if it cannot be written again, or Memory
abbrev pub IsStructFault : Annotation → Refusal → Type 0
IsStructFault a Schema = KeepsWritten a → ⊥
IsStructFault a Memory = Unit {0}
IsStructFault a _ = ⊥

-- what a name may be refused for: Schema if it is not UTF-8, or Memory
abbrev pub IsNameFault : List ℕ → Refusal → Type 0
IsNameFault name Schema = is_utf8 name ≡ false
IsNameFault name Memory = Unit {0}
IsNameFault name _ = ⊥

-- what a leaf whose type has this number may be refused for: an unsound type (Schema), FLOAT, DOUBLE or FLOAT16, INT96, or Memory
abbrev pub IsLeafFault : Element → ℤ → List ℕ → Refusal → Type 0
IsLeafFault e z name Schema = IsSoundType e (typed z e.type_length) → ⊥
IsLeafFault e z name (Float path) = is_floating e × (string_bytes path ≡ name)
IsLeafFault e z name (Int96 path) = is_int96 e × (string_bytes path ≡ name)
IsLeafFault e z name Memory = Unit {0}
IsLeafFault e z name _ = ⊥

-- the refusal of something inside a group of this name, seen from outside the group: with the name before the path; or Memory
abbrev pub IsInside : List ℕ → Refusal → Refusal → Type 0
IsInside name e Memory = Unit {0}
IsInside name (Float path) (Float whole) = string_bytes whole ≡ name ++ 46 ∷ string_bytes path
IsInside name (Int96 path) (Int96 whole) = string_bytes whole ≡ name ++ 46 ∷ string_bytes path
IsInside name (Float path) _ = ⊥
IsInside name (Int96 path) _ = ⊥
IsInside name e f = f ≡ e

-- the fields of one list, and then those of another
abbrev pub join_fields : Fields → Fields → Fields
join_fields no_fields gs = gs
join_fields (field f fs) gs = field f (join_fields fs gs)

-- the length of fixed values, if the type is one of them, is at least 1 and less than 2^31
abbrev pub HasTypedLength : Option Typed → Type 0
HasTypedLength (Some (Stored k)) = HasLength k
HasTypedLength _ = Unit {0}

-- the group of an element, with these fields, whose names differ
abbrev pub IsGroupMade : Element → List ℕ → Repetition → Fields → Field → Type 0
IsGroupMade e n r fs f = (f ≡ fields n r (group_annotation_of e.converted_type) fs) × AllDiffer (names fs)

-- what fields may be refused for by their names: Schema if two names are the same
abbrev pub AreTwins : Fields → Refusal → Type 0
AreTwins fs Schema = AllDiffer (names fs) → ⊥
AreTwins fs _ = ⊥

-- the list is one tree, whose root is a group
abbrev pub HasTree : List Element → Type 0
HasTree [] = ⊥
HasTree (e ∷ es) = (e.kind ≡ None) × (well_formed (e ∷ es) ≡ true) × (count_branches (forest (e ∷ es)) ≡ 1)
