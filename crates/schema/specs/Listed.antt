-- How a schema is listed: parquet.thrift, SchemaElement; the root is called `schema`.
use Rattle.std.specs.Prelude.{ℕ, ◌<◌, ◌^◌, ℤ, pos, List, [], ◌∷◌, ◌++◌, Option, Some, None}
use Rattle.schema.specs.declared.value.Repetition.{Repetition}
use Rattle.schema.specs.declared.value.Repetition.TheVariants.{Required, Optional, Repeated}
use Rattle.schema.specs.declared.value.Kind.{Kind}
use Rattle.schema.specs.declared.value.Kind.TheVariants.{Boolean, Int32, Int64, ByteArray, FixedLenByteArray}
use Rattle.schema.specs.declared.annotation.GroupAnnotation.{GroupAnnotation}
use Rattle.schema.specs.Annotations.{LeafType, converted_number, logical_struct, group_number_of}
use Rattle.schema.specs.Elements.{Element}
use Rattle.schema.specs.Shape.{Field, leaf, fields, Fields, no_fields, field, count}

-- the number of a physical type: parquet.thrift, enum Type
abbrev pub type_number : Kind → ℕ
type_number Boolean = 0
type_number Int32 = 1
type_number Int64 = 2
type_number ByteArray = 6
type_number (FixedLenByteArray n) = 7

-- the length of fixed values in bytes; None for the other physical types
abbrev pub type_length : Kind → Option ℤ
type_length (FixedLenByteArray n) = Some (pos n)
type_length _ = None

-- the number of a repetition: parquet.thrift, enum FieldRepetitionType
abbrev pub repetition_number : Repetition → ℕ
repetition_number Required = 0
repetition_number Optional = 1
repetition_number Repeated = 2

-- the number of the converted type that is written for a group; None for a group without annotation
abbrev pub group_converted : Option GroupAnnotation → Option ℤ
group_converted (Some a) = Some (pos (group_number_of a))
group_converted None = None

-- the element of a leaf, without a number of children and without a field_id
abbrev pub leaf_element : List ℕ → Repetition → LeafType → Element
leaf_element n r t = record { kind = Some (pos (type_number t.kind)); type_length = type_length t.kind; repetition_type = Some (pos (repetition_number r)); name = n; num_children = None; converted_type = converted_number t.annotation; scale = t.scale; precision = t.precision; field_id = None; logical_type = logical_struct t.annotation }

-- the element of a group with this many children; `r` and `a` are the numbers of its repetition and its converted type
abbrev pub group_element : List ℕ → Option ℤ → Option ℤ → ℕ → Element
group_element n r a children = record { kind = None; type_length = None; repetition_type = r; name = n; num_children = Some (pos children); converted_type = a; scale = None; precision = None; field_id = None; logical_type = None }

-- the elements of a field and of all below it, and of some fields and all below them, depth first
abbrev mutual
  pub listing : Field → List Element
  listing (leaf n r t) = leaf_element n r t ∷ []
  listing (fields n r a fs) = group_element n (Some (pos (repetition_number r))) (group_converted a) (count fs) ∷ listings fs

  pub listings : Fields → List Element
  listings no_fields = []
  listings (field f fs) = listing f ++ listings fs

-- the name of the root: `schema`
abbrev pub root_name : List ℕ
root_name = 115 ∷ 99 ∷ 104 ∷ 101 ∷ 109 ∷ 97 ∷ []

-- the elements of a schema: the root's, and then those of its fields, depth first
abbrev pub elements_of : Fields → List Element
elements_of fs = group_element root_name None None (count fs) ∷ listings fs

-- each group has so few children that an element can say their number
abbrev mutual
  pub IsFew : Field → Type 0
  IsFew (leaf n r t) = Unit {0}
  IsFew (fields n r a fs) = (count fs < 2 ^ 31) × AreFew fs

  pub AreFew : Fields → Type 0
  AreFew no_fields = Unit {0}
  AreFew (field f fs) = IsFew f × AreFew fs
