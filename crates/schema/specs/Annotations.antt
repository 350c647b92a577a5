-- Annotations of fields: parquet.thrift, ConvertedType and LogicalType; which pairs of an annotation and a type are known, and their orders (LogicalTypes.md).
use Rattle.std.specs.Prelude.{ℕ, ℤ, pos, ◌==◌, Bool, true, false, ◌||◌, List, [], ◌∷◌, Option, Some, None, if◌then◌else◌}
use Rattle.std.specs.Ordering.{int_eq}
use Rattle.thrift_compact.specs.Tree.{struct, Fields as Struct, no_fields as no_members, field as member}
use Rattle.schema.specs.declared.value.Kind.{Kind}
use Rattle.schema.specs.declared.value.Kind.TheVariants.{Boolean, Int32, Int64, ByteArray, FixedLenByteArray}
use Rattle.schema.specs.declared.order.Order.{Order}
use Rattle.schema.specs.declared.order.Order.TheVariants.{Signed, Unsigned, FalseFirst, Bytewise}
use Rattle.schema.specs.declared.order.Standing.{Standing}
use Rattle.schema.specs.declared.order.Standing.TheVariants.{Unknown, Unordered, Ordered}
use Rattle.schema.specs.declared.annotation.ConvertedType.{ConvertedType}
use Rattle.schema.specs.declared.annotation.ConvertedType.TheVariants as converted
use Rattle.schema.specs.declared.annotation.GroupAnnotation.{GroupAnnotation}
use Rattle.schema.specs.declared.annotation.GroupAnnotation.TheVariants.{Map, MapKeyValue, List as ListOfItems}

-- what a leaf says of its values: nothing, a converted type known over its type, another one by its number, or the struct of a logicalType
pub data Annotation : Type 0 where
  plain : Annotation
  known : ConvertedType → Annotation
  other_converted : ℤ → Annotation
  other_logical : Struct → Annotation

-- what the values of a leaf are: the physical type, the annotation, the scale and the precision
pub record LeafType : Type 0 where
  pub kind : Kind
  pub annotation : Annotation
  pub scale : Option ℤ
  pub precision : Option ℤ

-- the number of a leaf's converted type: parquet.thrift, enum ConvertedType
abbrev pub number_of : ConvertedType → ℕ
number_of converted.Utf8 = 0
number_of converted.Enum = 4
number_of converted.Decimal = 5
number_of converted.Date = 6
number_of converted.TimeMillis = 7
number_of converted.TimeMicros = 8
number_of converted.TimestampMillis = 9
number_of converted.TimestampMicros = 10
number_of converted.Uint8 = 11
number_of converted.Uint16 = 12
number_of converted.Uint32 = 13
number_of converted.Uint64 = 14
number_of converted.Int8 = 15
number_of converted.Int16 = 16
number_of converted.Int32 = 17
number_of converted.Int64 = 18
number_of converted.Json = 19
number_of converted.Bson = 20
number_of converted.Interval = 21

-- the converted types that a leaf may have, in the order of their numbers
abbrev pub converted_types : List ConvertedType
converted_types =
    converted.Utf8 ∷ converted.Enum ∷ converted.Decimal ∷ converted.Date ∷ converted.TimeMillis ∷ converted.TimeMicros ∷ converted.TimestampMillis
    ∷ converted.TimestampMicros ∷ converted.Uint8 ∷ converted.Uint16 ∷ converted.Uint32 ∷ converted.Uint64 ∷ converted.Int8 ∷ converted.Int16
    ∷ converted.Int32 ∷ converted.Int64 ∷ converted.Json ∷ converted.Bson ∷ converted.Interval ∷ []

-- the number of a group's converted type: parquet.thrift, enum ConvertedType
abbrev pub group_number_of : GroupAnnotation → ℕ
group_number_of Map = 1
group_number_of MapKeyValue = 2
group_number_of ListOfItems = 3

-- the converted types that a group may have, in the order of their numbers
abbrev pub group_annotations : List GroupAnnotation
group_annotations = Map ∷ MapKeyValue ∷ ListOfItems ∷ []

-- the first of some things that has this number; None if none of them has it
abbrev pub numbered : {A : Type 0} → (A → ℕ) → ℤ → List A → Option A
numbered number z [] = None
numbered number z (x ∷ xs) = if int_eq z (pos (number x)) then Some x else numbered number z xs

-- the converted type of a leaf by its number; None for a number that no converted type of a leaf has
unfoldable pub converted_type : ℤ → Option ConvertedType
converted_type z = numbered number_of z converted_types

-- what a converted type is over a physical type: the pairs that are known, and the order of their values
abbrev pub standing : Kind → ConvertedType → Standing
standing Int32 converted.Decimal = Ordered Signed
standing Int32 converted.Date = Ordered Signed
standing Int32 converted.TimeMillis = Ordered Signed
standing Int32 converted.Uint8 = Ordered Unsigned
standing Int32 converted.Uint16 = Ordered Unsigned
standing Int32 converted.Uint32 = Ordered Unsigned
standing Int32 converted.Int8 = Ordered Signed
standing Int32 converted.Int16 = Ordered Signed
standing Int32 converted.Int32 = Ordered Signed
standing Int64 converted.Decimal = Ordered Signed
standing Int64 converted.TimeMicros = Ordered Signed
standing Int64 converted.TimestampMillis = Ordered Signed
standing Int64 converted.TimestampMicros = Ordered Signed
standing Int64 converted.Uint64 = Ordered Unsigned
standing Int64 converted.Int64 = Ordered Signed
standing ByteArray converted.Utf8 = Ordered Bytewise
standing ByteArray converted.Enum = Ordered Bytewise
standing ByteArray converted.Json = Ordered Bytewise
standing ByteArray converted.Bson = Ordered Bytewise
standing ByteArray converted.Decimal = Unordered
standing (FixedLenByteArray n) converted.Decimal = Unordered
standing (FixedLenByteArray n) converted.Interval = if n == 12 then Unordered else Unknown
standing _ _ = Unknown

-- the annotation by a converted type: by its name if it is known over the physical type, and else by its number
abbrev pub by_standing : Standing → ConvertedType → ℤ → Annotation
by_standing Unknown c z = other_converted z
by_standing Unordered c z = known c
by_standing (Ordered o) c z = known c

-- the annotation over a physical type by the number of a converted type, and by the name that this number has, if it has one
abbrev pub named : Kind → ℤ → Option ConvertedType → Annotation
named k z (Some c) = by_standing (standing k c) c z
named k z None = other_converted z

-- whether the member with this id is a struct and the only member of the union
abbrev pub is_only_member : ℕ → Struct → Bool
is_only_member id (member z (struct s) no_members) = int_eq z (pos id)
is_only_member id _ = false

-- a logicalType: STRING, which has the number 1, is UTF8 over BYTE_ARRAY
abbrev pub logical : Kind → Struct → Annotation
logical ByteArray s = if is_only_member 1 s then known converted.Utf8 else other_logical s
logical _ s = other_logical s

-- what a leaf is annotated with: a converted type counts before a logicalType
abbrev pub annotation_of : Kind → Option ℤ → Option Struct → Annotation
annotation_of k (Some z) s = named k z (converted_type z)
annotation_of k None (Some s) = logical k s
annotation_of k None None = plain

-- the number of the converted type that is written for an annotation; None if none is written
abbrev pub converted_number : Annotation → Option ℤ
converted_number plain = None
converted_number (known c) = Some (pos (number_of c))
converted_number (other_converted z) = Some z
converted_number (other_logical s) = None

-- the struct of the logicalType that is written for an annotation; None if none is written
abbrev pub logical_struct : Annotation → Option Struct
logical_struct (other_logical s) = Some s
logical_struct _ = None

-- whether FLOAT16, which has the number 15, is a member of the union
abbrev pub is_half : Struct → Bool
is_half no_members = false
is_half (member z x s) = int_eq z (pos 15) || is_half s

-- what a group is annotated with: MAP, MAP_KEY_VALUE or LIST; None for any other converted type
abbrev pub group_annotation_of : Option ℤ → Option GroupAnnotation
group_annotation_of (Some z) = numbered group_number_of z group_annotations
group_annotation_of None = None

-- whether the values of a leaf are text: UTF8, ENUM or JSON over BYTE_ARRAY
abbrev pub is_text : Kind → Annotation → Bool
is_text ByteArray (known converted.Utf8) = true
is_text ByteArray (known converted.Enum) = true
is_text ByteArray (known converted.Json) = true
is_text _ _ = false

-- the order of values without annotation
abbrev pub plain_order : Kind → Order
plain_order Boolean = FalseFirst
plain_order Int32 = Signed
plain_order Int64 = Signed
plain_order ByteArray = Bytewise
plain_order (FixedLenByteArray n) = Bytewise

-- the order of a converted type's values over a physical type; None if they have none, or the pair is not known
abbrev pub order_by_standing : Standing → Option Order
order_by_standing Unknown = None
order_by_standing Unordered = None
order_by_standing (Ordered o) = Some o

-- the order of the values of a type with an annotation; None if they have none
abbrev pub order_over : Kind → Annotation → Option Order
order_over k plain = Some (plain_order k)
order_over k (known c) = order_by_standing (standing k c)
order_over k (other_converted z) = None
order_over k (other_logical s) = None

-- the order of the values of a leaf; None if they have none
abbrev pub order_of : LeafType → Option Order
order_of t = order_over t.kind t.annotation
