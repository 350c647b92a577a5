-- The list of a schema's elements, depth first, and the tree that it stands for: parquet.thrift, SchemaElement.
use Rattle.std.specs.Prelude.{◌≡◌, ℕ, suc, max, ◌<◌, ◌≤◌, ℤ, pos, IsTrue, Bool, true, false, List, [], ◌∷◌, ◌++◌, Option, Some, None, IsSome, ◌⊎◌, ◌+◌, if◌then◌else◌}
use Rattle.std.specs.Ordering.{int_eq}
use Rattle.std.specs.Str.{is_utf8}
use Rattle.thrift_compact.specs.Tree.{Fields as Struct}
use Rattle.schema.specs.declared.value.Repetition.{Repetition}
use Rattle.schema.specs.declared.value.Repetition.TheVariants.{Required, Optional, Repeated}
use Rattle.schema.specs.declared.value.Kind.{Kind}
use Rattle.schema.specs.declared.value.Kind.TheVariants.{Boolean, Int32, Int64, ByteArray, FixedLenByteArray}
use Rattle.schema.specs.declared.building.Typed.{Typed}
use Rattle.schema.specs.declared.building.Typed.TheVariants.{Stored, Floating, Int96}
use Rattle.schema.specs.Annotations.{LeafType, Annotation, other_logical, annotation_of, group_annotation_of, is_half}
use Rattle.schema.specs.Elements.{Element}
use Rattle.schema.specs.Shape.{Field, leaf, fields, Fields, no_fields, field}
use Rattle.schema.specs.Law.{IsSchema, IsWritable, AllDiffer}

-- a tree of elements, and a list of such trees
mutual
  pub data Branch : Type 0 where
    branch : Element → Branches → Branch

  pub data Branches : Type 0 where
    no_branches : Branches
    branches : Branch → Branches → Branches

-- the elements of a tree, and of some trees, depth first
abbrev mutual
  pub depth_first : Branch → List Element
  depth_first (branch e bs) = e ∷ depth_first_each bs

  pub depth_first_each : Branches → List Element
  depth_first_each no_branches = []
  depth_first_each (branches b bs) = depth_first b ++ depth_first_each bs

-- the number of trees in a list of trees
abbrev pub count_branches : Branches → ℕ
count_branches no_branches = 0
count_branches (branches b bs) = suc (count_branches bs)

-- an element with a type has no children; one without has some, as many as it says
abbrev pub HasChildren : Option ℤ → Option ℤ → ℕ → Type 0
HasChildren (Some t) children n = (n ≡ 0) × ((children ≡ None) ⊎ (children ≡ Some (pos 0)))
HasChildren None children n = (1 ≤ n) × (children ≡ Some (pos n))

-- in a tree, and in some trees, each element has the children that it says
abbrev mutual
  pub IsCounted : Branch → Type 0
  IsCounted (branch e bs) = HasChildren e.kind e.num_children (count_branches bs) × AreCounted bs

  pub AreCounted : Branches → Type 0
  AreCounted no_branches = Unit {0}
  AreCounted (branches b bs) = IsCounted b × AreCounted bs

-- the list is the tree, depth first, and the root is a group
pub record IsTreeOf (es : List Element) (root : Element) (below : Branches) : Type 0 where
  pub listed : es ≡ depth_first (branch root below)
  pub counted : IsCounted (branch root below)
  pub group : root.kind ≡ None

-- the repetition with this number: parquet.thrift, enum FieldRepetitionType; None for another number, or if it is absent
abbrev pub repetition : Option ℤ → Option Repetition
repetition None = None
repetition (Some z) = if int_eq z (pos 0) then Some Required else if int_eq z (pos 1) then Some Optional else if int_eq z (pos 2) then Some Repeated else None

-- the type of fixed values with this length in bytes; None if it is absent or less than 1
abbrev pub fixed : Option ℤ → Option Typed
fixed (Some (pos (suc n))) = Some (Stored (FixedLenByteArray (suc n)))
fixed _ = None

-- parquet.thrift, enum Type: what the values of a leaf are by the type and the length of its element; None if there is no such type
abbrev pub typed : ℤ → Option ℤ → Option Typed
typed z length =
    if int_eq z (pos 0) then Some (Stored Boolean)
    else if int_eq z (pos 1) then Some (Stored Int32)
    else if int_eq z (pos 2) then Some (Stored Int64)
    else if int_eq z (pos 3) then Some Int96
    else if int_eq z (pos 4) then Some Floating
    else if int_eq z (pos 5) then Some Floating
    else if int_eq z (pos 6) then Some (Stored ByteArray)
    else if int_eq z (pos 7) then fixed length
    else None

-- whether the annotation is FLOAT16, which counts only if there is no converted type
abbrev pub is_float16 : Option ℤ → Option Struct → Bool
is_float16 None (Some s) = is_half s
is_float16 _ _ = false

-- what an element says of a leaf of this physical type
abbrev pub leaf_type : Kind → Element → LeafType
leaf_type k e = record { kind = k; annotation = annotation_of k e.converted_type e.logical_type; scale = e.scale; precision = e.precision }

-- the element is that of a leaf of this type
pub record IsTyped (e : Element) (t : LeafType) : Type 0 where
  pub number : ℤ
  pub there : e.kind ≡ Some number
  pub stored : typed number e.type_length ≡ Some (Stored t.kind)
  pub is : t ≡ leaf_type t.kind e

-- which field a tree of elements stands for, and which fields some trees stand for
abbrev mutual
  pub IsField : Branch → Field → Type 0
  IsField (branch e bs) (leaf n r t) = (n ≡ e.name) × (repetition e.repetition_type ≡ Some r) × IsTyped e t
  IsField (branch e bs) (fields n r a fs) = (n ≡ e.name) × (repetition e.repetition_type ≡ Some r) × (e.kind ≡ None) × (a ≡ group_annotation_of e.converted_type) × AreFields bs fs

  pub AreFields : Branches → Fields → Type 0
  AreFields no_branches no_fields = Unit {0}
  AreFields (branches b bs) (field f fs) = IsField b f × AreFields bs fs
  AreFields _ _ = ⊥

-- the elements stand for a root with these fields
pub record IsSchemaOf (es : List Element) (fs : Fields) : Type 0 where
  pub root : Element
  pub below : Branches
  pub listed : IsTreeOf es root below
  pub stands_for : AreFields below fs
  pub valid : IsSchema fs

-- a kept struct can be written again; FLOAT16's is not kept
abbrev pub KeepsSound : Annotation → Type 0
KeepsSound (other_logical s) = (is_half s ≡ true) ⊎ IsWritable s
KeepsSound _ = Unit {0}

-- a leaf's type is one of enum Type, with FLOAT, DOUBLE, FLOAT16 and INT96 among them, and a struct that it keeps can be written again
abbrev pub IsSoundType : Element → Option Typed → Type 0
IsSoundType e (Some (Stored k)) = KeepsSound (annotation_of k e.converted_type e.logical_type)
IsSoundType e (Some _) = Unit {0}
IsSoundType e None = ⊥

-- the type of a leaf is sound by `IsSoundType`; the element of a group has none
abbrev pub IsSoundKind : Element → Option ℤ → Type 0
IsSoundKind e (Some z) = IsSoundType e (typed z e.type_length)
IsSoundKind e None = Unit {0}

-- the names of the elements at the roots of some trees
abbrev pub branch_names : Branches → List (List ℕ)
branch_names no_branches = []
branch_names (branches (branch e below) bs) = e.name ∷ branch_names bs

-- a tree, and each of some trees, would stand for a field if FLOAT, DOUBLE, FLOAT16 and INT96 were types of the store
abbrev mutual
  pub IsSound : Branch → Type 0
  IsSound (branch e bs) = IsTrue (is_utf8 e.name) × IsSome (repetition e.repetition_type) × IsSoundKind e e.kind × AllDiffer (branch_names bs) × AreSound bs

  pub AreSound : Branches → Type 0
  AreSound no_branches = Unit {0}
  AreSound (branches b bs) = IsSound b × AreSound bs

-- the list would stand for a schema if FLOAT, DOUBLE, FLOAT16 and INT96 were types of the store
pub record IsSoundList (es : List Element) : Type 0 where
  pub root : Element
  pub below : Branches
  pub listed : IsTreeOf es root below
  pub differ : AllDiffer (branch_names below)
  pub sound : AreSound below

-- the element has the type INT96
abbrev pub is_int96 : Element → Type 0
is_int96 e = (number : ℤ) × (e.kind ≡ Some number) × (typed number e.type_length ≡ Some Int96)

-- the element has the type FLOAT or DOUBLE, or is annotated as FLOAT16
abbrev pub is_floating : Element → Type 0
is_floating e = (number : ℤ) × (e.kind ≡ Some number) × ((typed number e.type_length ≡ Some Floating) ⊎ (is_float16 e.converted_type e.logical_type ≡ true))

-- a leaf in a tree, and in some trees, is as `Is` says, and this is its path: the names of the fields that lead to it, joined by dots
abbrev mutual
  pub HasLeaf : (Element → Type 0) → Branch → List ℕ → Type 0
  HasLeaf Is (branch e no_branches) path = Is e × (path ≡ e.name)
  HasLeaf Is (branch e (branches b bs)) path = (inside : List ℕ) × HasLeafAmong Is (branches b bs) inside × (path ≡ e.name ++ 46 ∷ inside)

  pub HasLeafAmong : (Element → Type 0) → Branches → List ℕ → Type 0
  HasLeafAmong Is no_branches path = ⊥
  HasLeafAmong Is (branches b bs) path = HasLeaf Is b path ⊎ HasLeafAmong Is bs path

-- the list is a tree in which a leaf at this path is as `Is` says
pub record ListHasLeaf (Is : Element → Type 0) (es : List Element) (path : List ℕ) : Type 0 where
  pub root : Element
  pub below : Branches
  pub listed : IsTreeOf es root below
  pub there : HasLeafAmong Is below path

-- how many fields are on the longest path down a tree, and down some trees
abbrev mutual
  pub height : Branch → ℕ
  height (branch e bs) = suc (height_of bs)

  pub height_of : Branches → ℕ
  height_of no_branches = 0
  height_of (branches b bs) = max (height b) (height_of bs)

-- 1 for an element with a type, which is a leaf, and 0 for one without
abbrev pub one_typed : Option ℤ → ℕ
one_typed None = 0
one_typed (Some t) = 1

-- the number of elements with a type, which are the leaves
abbrev pub count_typed : List Element → ℕ
count_typed [] = 0
count_typed (e ∷ es) = one_typed e.kind + count_typed es

-- the list is a tree with more leaves, or more fields on a path, than a schema may have
pub record IsTooLarge (es : List Element) : Type 0 where
  pub root : Element
  pub below : Branches
  pub listed : IsTreeOf es root below
  pub over : (1024 < count_typed es) ⊎ (32 < height_of below)

-- a list stands for at most one schema
abbrev pub ListsMeanOneSchema : Type 0
ListsMeanOneSchema = (es : List Element) (fs gs : Fields) → IsSchemaOf es fs → IsSchemaOf es gs → fs ≡ gs
