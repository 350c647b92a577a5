-- The tree of a schema: parquet.thrift, SchemaElement, apart from how it is listed.
use Rattle.std.specs.Prelude.{ℕ, suc, List, Option}
use Rattle.schema.specs.declared.value.Repetition.{Repetition}
use Rattle.schema.specs.declared.annotation.GroupAnnotation.{GroupAnnotation}
use Rattle.schema.specs.Annotations.{LeafType}

-- a field of a schema: a leaf with its type, or a group with its annotation and its fields; and the fields of a group, in order
mutual
  pub data Field : Type 0 where
    leaf : (name : List ℕ) → Repetition → LeafType → Field
    fields : (name : List ℕ) → Repetition → Option GroupAnnotation → Fields → Field

  pub data Fields : Type 0 where
    no_fields : Fields
    field : Field → Fields → Fields

-- the number of fields, without those below them
abbrev pub count : Fields → ℕ
count no_fields = 0
count (field f fs) = suc (count fs)

-- the name of a field
abbrev pub name_of : Field → List ℕ
name_of (leaf n r t) = n
name_of (fields n r a fs) = n

-- how often a field may stand in its group
abbrev pub repetition_of : Field → Repetition
repetition_of (leaf n r t) = r
repetition_of (fields n r a fs) = r
