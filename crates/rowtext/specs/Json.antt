-- Rows as JSON text (RFC 8259), one line each.
use Rattle.std.specs.Prelude.{ℕ, ◌%◌, ◌^◌, ℤ, Bool, false, ◌&&◌, List, [], ◌∷◌, Option, Some, None, if◌then◌else◌}
use Rattle.std.specs.Int.{w64, cast_unsigned}
use Rattle.std.specs.Str.{is_utf8}
use Rattle.serde_json.specs.Data.{Data, Num, unsigned, Items, no_items, item, Members, no_members, member, put}
use Rattle.serde_json.specs.Data as json
use Rattle.serde_json.specs.Find.{of_integer}
use Rattle.serde_json.specs.Written.{compact_text}
use Rattle.hex.specs.Hex.{encode_lower}
use Rattle.schema.specs.declared.value.Repetition.{Repetition}
use Rattle.schema.specs.declared.value.Repetition.TheVariants.{Required, Optional, Repeated}
use Rattle.schema.specs.declared.value.Kind.{Kind}
use Rattle.schema.specs.declared.value.Kind.TheVariants.{Int32}
use Rattle.schema.specs.declared.order.Order.{Order}
use Rattle.schema.specs.declared.order.Order.TheVariants.{Unsigned}
use Rattle.schema.specs.Annotations.{LeafType, is_text, order_of}
use Rattle.schema.specs.Values.{ValueTree, null, boolean, integer, bytes, group, list, ValueTrees, no_values, value}
use Rattle.leaftext.specs.declared.leaf_form.Form.{Form}
use Rattle.leaftext.specs.Forms.{form_if, form_text, form_bytes_text}
use Rattle.schema.specs.Shape.{Field, leaf, fields, Fields, field, name_of}

-- the unsigned number of the same bits
abbrev pub unsigned_bits : Kind → ℤ → ℕ
unsigned_bits Int32 z = cast_unsigned w64 z % 2 ^ 32
unsigned_bits _ z = cast_unsigned w64 z

-- a number is shown unsigned where the order of its leaf is
abbrev pub number_json : Kind → Option Order → ℤ → Num
number_json k (Some Unsigned) z = unsigned (unsigned_bits k z)
number_json k _ z = of_integer z

-- bytes are shown as text where they are text, and else as hexadecimal digits in lower case
abbrev pub bytes_json : LeafType → List ℕ → List ℕ
bytes_json t s = if is_text t.kind t.annotation && is_utf8 s then s else encode_lower s

-- a value of a leaf, its repetition aside
abbrev pub leaf_json : LeafType → ValueTree → Data
leaf_json t (boolean b) = json.boolean b
leaf_json t (integer z) = json.number (number_json t.kind (order_of t) z)
leaf_json t (bytes s) = json.string (bytes_json t s)
leaf_json t _ = json.null

-- a text as a string; else this value
abbrev pub text_or : Option (List ℕ) → Data → Data
text_or (Some text) d = json.string text
text_or None d = d

-- hex
abbrev pub hex_name : List ℕ
hex_name = 104 ∷ 101 ∷ 120 ∷ []

-- bytes as an object with one member, hex, which has their digits: as a string, the digits could be the text of other bytes
abbrev pub hex_json : List ℕ → Data
hex_json s = json.object (member hex_name (json.string (encode_lower s)) no_members)

-- bytes of a leaf whose values have texts of this form: by their text, or else by their digits
abbrev pub bytes_shown : Form → List ℕ → Data
bytes_shown form s = text_or (form_bytes_text form s) (hex_json s)

-- a value of a leaf whose values have texts of this form: a number with a text is shown by it, and bytes as `bytes_shown` has them
abbrev pub leaf_shown : Option Form → LeafType → ValueTree → Data
leaf_shown None t v = leaf_json t v
leaf_shown (Some form) t (integer z) = text_or (form_text form z) (leaf_json t (integer z))
leaf_shown (Some form) t (bytes s) = bytes_shown form s
leaf_shown (Some form) t v = leaf_json t v

-- a value of a leaf, its repetition aside, with texts or without
abbrev pub leaf_json_as : Bool → LeafType → ValueTree → Data
leaf_json_as texts t = leaf_shown (form_if texts t) t

-- each item of a list
abbrev pub items_json : (ValueTree → Data) → ValueTrees → Items
items_json shown no_values = no_items
items_json shown (value v vs) = item (shown v) (items_json shown vs)

-- an OPTIONAL value may be null, a REPEATED one is an array
abbrev pub json_as : Repetition → (ValueTree → Data) → ValueTree → Data
json_as Required shown v = shown v
json_as Optional shown null = json.null
json_as Optional shown v = shown v
json_as Repeated shown (list vs) = json.array (items_json shown vs)
json_as Repeated shown _ = json.null

-- a group is an object
abbrev pub object_json : (ValueTrees → Members) → ValueTree → Data
object_json shown (group vs) = json.object (shown vs)
object_json shown _ = json.null

-- a value of a field; the members of an object, which stand in the byte order of their names
abbrev mutual
  pub inside_json_as : Bool → Field → ValueTree → Data
  inside_json_as texts (leaf n r t) v = leaf_json_as texts t v
  inside_json_as texts (fields n r a fs) v = object_json (members_json_as texts fs) v

  pub field_json_as : Bool → Field → ValueTree → Data
  field_json_as texts (leaf n r t) v = json_as r (leaf_json_as texts t) v
  field_json_as texts (fields n r a fs) v = json_as r (object_json (members_json_as texts fs)) v

  pub members_json_as : Bool → Fields → ValueTrees → Members
  members_json_as texts (field f fs) (value v vs) = put (name_of f) (field_json_as texts f v) (members_json_as texts fs vs)
  members_json_as texts _ _ = no_members

-- a row is an object with a member for each top-level field
abbrev pub row_json_as : Bool → Fields → ValueTrees → Data
row_json_as texts fs row = json.object (members_json_as texts fs row)

-- the text of a row
abbrev pub row_text_as : Bool → Fields → ValueTrees → List ℕ
row_text_as texts fs row = compact_text (row_json_as texts fs row)

-- ---- without texts

-- a value of a field, its repetition aside, without texts
abbrev pub inside_json : Field → ValueTree → Data
inside_json = inside_json_as false

-- a value of a field, without texts
abbrev pub field_json : Field → ValueTree → Data
field_json = field_json_as false

-- the members of an object, without texts
abbrev pub members_json : Fields → ValueTrees → Members
members_json = members_json_as false

-- a row, without texts
abbrev pub row_json : Fields → ValueTrees → Data
row_json = row_json_as false

-- the text of a row without texts of dates, times and decimals: they are numbers
abbrev pub row_text : Fields → ValueTrees → List ℕ
row_text = row_text_as false
