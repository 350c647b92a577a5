-- How a schema is printed as a JSON value (RFC 8259): an object for each field, its members in the byte order of their names.
use Rattle.std.specs.Prelude.{◌≡◌, ℕ, ◌^◌, ◌<◌, ℤ, pos, true, codes, List, [], ◌∷◌, length, Option, Some, None, option_map}
use Rattle.serde_json.specs.Data.{Data, number, string, array, object, Items, no_items, item, Members, no_members, member}
use Rattle.serde_json.specs.Find.{of_integer}
use Rattle.serde_json.specs.Read.{read}
use Rattle.hex.specs.Hex.{encode_lower, IsBytes}
use Rattle.thrift_compact.specs.Compact.{IsThrift}
use Rattle.schema.specs.declared.value.Repetition.{Repetition}
use Rattle.schema.specs.declared.value.Repetition.TheVariants.{Required, Optional, Repeated}
use Rattle.schema.specs.declared.value.Kind.{Kind}
use Rattle.schema.specs.declared.value.Kind.TheVariants.{Boolean, Int32, Int64, ByteArray, FixedLenByteArray}
use Rattle.schema.specs.declared.annotation.ConvertedType.{ConvertedType}
use Rattle.schema.specs.declared.annotation.ConvertedType.TheVariants as converted
use Rattle.schema.specs.declared.annotation.GroupAnnotation.{GroupAnnotation}
use Rattle.schema.specs.declared.annotation.GroupAnnotation.TheVariants.{Map, MapKeyValue, List as ListOfItems}
use Rattle.schema.specs.Annotations.{LeafType, Annotation, plain, known, other_converted, other_logical, converted_number}
use Rattle.schema.specs.Shape.{Field, leaf, fields, Fields, no_fields, field, count}
use Rattle.schema.specs.Fits.{is_within}
use Rattle.schema.specs.Law.{IsSchema}
use Rattle.jsonrows.specs.SchemaJson.{IsSchemaText}

-- the word of a FieldRepetitionType (parquet.thrift)
abbrev pub repetition_word : Repetition → List ℕ
repetition_word Required = codes "required"
repetition_word Optional = codes "optional"
repetition_word Repeated = codes "repeated"

-- the word of a Type (parquet.thrift)
abbrev pub type_word : Kind → List ℕ
type_word Boolean = codes "boolean"
type_word Int32 = codes "int32"
type_word Int64 = codes "int64"
type_word ByteArray = codes "bytes"
type_word (FixedLenByteArray n) = codes "fixed"

-- the word of a leaf's ConvertedType (parquet.thrift)
abbrev pub note_word : ConvertedType → List ℕ
note_word converted.Utf8 = codes "utf8"
note_word converted.Enum = codes "enum"
note_word converted.Decimal = codes "decimal"
note_word converted.Date = codes "date"
note_word converted.TimeMillis = codes "time_millis"
note_word converted.TimeMicros = codes "time_micros"
note_word converted.TimestampMillis = codes "timestamp_millis"
note_word converted.TimestampMicros = codes "timestamp_micros"
note_word converted.Uint8 = codes "uint_8"
note_word converted.Uint16 = codes "uint_16"
note_word converted.Uint32 = codes "uint_32"
note_word converted.Uint64 = codes "uint_64"
note_word converted.Int8 = codes "int_8"
note_word converted.Int16 = codes "int_16"
note_word converted.Int32 = codes "int_32"
note_word converted.Int64 = codes "int_64"
note_word converted.Json = codes "json"
note_word converted.Bson = codes "bson"
note_word converted.Interval = codes "interval"

-- the word of a group's ConvertedType (parquet.thrift)
abbrev pub group_note_word : GroupAnnotation → List ℕ
group_note_word Map = codes "map"
group_note_word MapKeyValue = codes "map_key_value"
group_note_word ListOfItems = codes "list"

-- the name of a member, and its value; none if the member is absent
abbrev pub MayBe : Type 0
MayBe = List ℕ × Option Data

-- a member before the others, if it has a value
abbrev pub with_member : List ℕ → Option Data → Members → Members
with_member k None ms = ms
with_member k (Some d) ms = member k d ms

-- the members that have a value, in their order
abbrev pub those_there : List MayBe → Members
those_there [] = no_members
those_there (m ∷ ms) = with_member m.0 m.1 (those_there ms)

-- an integer as a JSON number
abbrev pub integer_json : ℤ → Data
integer_json z = number (of_integer z)

-- the length of the values of a fixed type, in bytes; none for other types
abbrev pub length_json : Kind → Option Data
length_json (FixedLenByteArray n) = Some (integer_json (pos n))
length_json _ = None

-- the note of a leaf: its ConvertedType by its word, `other` for an annotation that has no name over the type, and none without an annotation
abbrev pub note_json : Annotation → Option Data
note_json plain = None
note_json (known c) = Some (string (note_word c))
note_json (other_converted z) = Some (string (codes "other"))
note_json (other_logical s) = Some (string (codes "other"))

-- the number of a ConvertedType that has no name over the type of its leaf; none for other annotations
abbrev pub converted_json : Annotation → Option Data
converted_json (other_converted z) = Some (integer_json z)
converted_json _ = None

-- the hexadecimal digits of the bytes of the struct of a LogicalType that has no name over the type of its leaf; none for other annotations
abbrev pub logical_json : Annotation → List ℕ → Option Data
logical_json (other_logical s) bytes = Some (string (encode_lower bytes))
logical_json _ bytes = None

-- the members of a leaf, whose struct has these bytes
abbrev pub leaf_json : List ℕ → Repetition → LeafType → List ℕ → List MayBe
leaf_json name r t bytes =
    (codes "converted", converted_json t.annotation) ∷ (codes "length", length_json t.kind) ∷ (codes "logical", logical_json t.annotation bytes) ∷ (codes "name", Some (string name)) ∷ (codes "note", note_json t.annotation)
    ∷ (codes "precision", option_map integer_json t.precision) ∷ (codes "rep", Some (string (repetition_word r))) ∷ (codes "scale", option_map integer_json t.scale) ∷ (codes "type", Some (string (type_word t.kind))) ∷ []

-- the members of a group
abbrev pub group_json : List ℕ → Repetition → Option GroupAnnotation → Items → List MayBe
group_json name r a below =
    (codes "fields", Some (array below)) ∷ (codes "name", Some (string name)) ∷ (codes "note", option_map (λ x. string (group_note_word x)) a) ∷ (codes "rep", Some (string (repetition_word r))) ∷ []

-- the bytes spell the struct that an annotation keeps; any bytes do if it keeps none
abbrev pub Spells : Annotation → List ℕ → Type 0
Spells (other_logical s) bytes = IsThrift bytes s (length bytes) × (IsBytes bytes)
Spells _ bytes = Unit {0}

-- a field is printed so, and fields, one item each
abbrev mutual
  pub PrintsField : Field → Data → Type 0
  PrintsField (leaf name r t) d = (bytes : List ℕ) × Spells t.annotation bytes × (d ≡ object (those_there (leaf_json name r t bytes)))
  PrintsField (fields name r a fs) d = (below : Items) × PrintsFields fs below × (d ≡ object (those_there (group_json name r a below)))

  pub PrintsFields : Fields → Items → Type 0
  PrintsFields no_fields no_items = Unit {0}
  PrintsFields (field f fs) (item d ds) = PrintsField f d × PrintsFields fs ds
  PrintsFields _ _ = ⊥

-- a number that an element can have: an integer of 32 bits, or none
abbrev pub IsShort : Option ℤ → Type 0
IsShort None = Unit {0}
IsShort (Some z) = is_within 2147483648 z ≡ true

-- an element can have each number of a field and of those below it, and each group has fewer than 2^31 fields
abbrev mutual
  pub IsOfShort : Field → Type 0
  IsOfShort (leaf name r t) = IsShort (converted_number t.annotation) × IsShort t.scale × IsShort t.precision
  IsOfShort (fields name r a fs) = (count fs < 2 ^ 31) × AreOfShort fs

  pub AreOfShort : Fields → Type 0
  AreOfShort no_fields = Unit {0}
  AreOfShort (field f fs) = IsOfShort f × AreOfShort fs

-- a text whose JSON value is what is printed of a schema says that schema
abbrev pub SchemasReadBack : Type 0
SchemasReadBack = (fs : Fields) (ds : Items) (text : List ℕ) → IsSchema fs → count fs < 2 ^ 31 → AreOfShort fs → PrintsFields fs ds → read text ≡ Some (array ds) → IsSchemaText text fs
