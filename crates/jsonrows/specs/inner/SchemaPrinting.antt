-- What the functions that print a schema find, member by member.
use Rattle.std.specs.Prelude.{ℕ, List, [], ◌∷◌, length, Option, Some, None}
use Rattle.serde_json.specs.Data.{Data, Items, Members, no_members, put}
use Rattle.thrift_compact.specs.Compact.{IsThrift}
use Rattle.schema.specs.Annotations.{LeafType, Annotation, other_logical, converted_number}
use Rattle.schema.specs.Shape.{Field, leaf, fields, Fields, no_fields, field}
use Rattle.jsonrows.specs.SchemaPrinted.{MayBe, PrintsField, PrintsFields, IsShort}

-- the bytes are those of the struct that an annotation keeps; any bytes do if it keeps none
abbrev pub AreStructBytes : Annotation → List ℕ → Type 0
AreStructBytes (other_logical s) bytes = IsThrift bytes s (length bytes)
AreStructBytes _ bytes = Unit {0}

-- a member that may be there, put at its name
abbrev pub put_maybe : List ℕ → Option Data → Members → Members
put_maybe k None ms = ms
put_maybe k (Some d) ms = put k d ms

-- the members that are there, put from the last one on
abbrev pub put_each : List MayBe → Members
put_each [] = no_members
put_each (m ∷ ms) = put_maybe m.0 m.1 (put_each ms)

-- an element can have each number of a leaf
abbrev pub HasShortLeaf : LeafType → Type 0
HasShortLeaf t = IsShort (converted_number t.annotation) × IsShort t.scale × IsShort t.precision

-- an element can have each number of a leaf at or below a field; the counts of groups are left out
abbrev mutual
  pub HasShortNumbers : Field → Type 0
  HasShortNumbers (leaf n r t) = HasShortLeaf t
  HasShortNumbers (fields n r a fs) = HaveShortNumbers fs

  pub HaveShortNumbers : Fields → Type 0
  HaveShortNumbers no_fields = Unit {0}
  HaveShortNumbers (field f fs) = HasShortNumbers f × HaveShortNumbers fs

-- a field is printed so, and an element can have each number of its leaves
abbrev pub IsPrintedField : Field → Data → Type 0
IsPrintedField f d = PrintsField f d × HasShortNumbers f

-- fields are printed so, one item each, and an element can have each number of their leaves
abbrev pub ArePrintedFields : Fields → Items → Type 0
ArePrintedFields fs ds = PrintsFields fs ds × HaveShortNumbers fs
