-- Rows from JSON values (RFC 8259): the row that the object of a line is, by the same table of leaves, groups and repetitions by which `Json` shows one.
use Rattle.std.specs.Prelude.{ℕ, ◌^◌, ℤ, Bool, false, List, nat_lt, bytes_eq, Option, Some, None, option_map, option_and_then, if◌then◌else◌}
use Rattle.std.specs.Ordering.{nat_cmp, match_ordering}
use Rattle.std.specs.Cmp.Lexicographic.{slice_cmp}
use Rattle.std.specs.Int.{w32, w64, cast_signed}
use Rattle.std.specs.Option.{option_or}
use Rattle.std.specs.Result.{result_ok}
use Rattle.serde_json.specs.Data.{Data, Num, Items, no_items, item, Members, no_members, member}
use Rattle.serde_json.specs.Data as json
use Rattle.serde_json.specs.Find.{as_u64, as_i64, as_object, get_member}
use Rattle.serde_json.specs.Read.{read}
use Rattle.hex.specs.Hex.{encode_lower, decode_of}
use Rattle.schema.specs.declared.value.Repetition.{Repetition}
use Rattle.schema.specs.declared.value.Repetition.TheVariants.{Required, Optional, Repeated}
use Rattle.schema.specs.declared.value.Kind.{Kind}
use Rattle.schema.specs.declared.value.Kind.TheVariants.{Int32}
use Rattle.schema.specs.declared.order.Order.{Order}
use Rattle.schema.specs.declared.order.Order.TheVariants.{Unsigned}
use Rattle.schema.specs.Annotations.{LeafType, is_text, order_of}
use Rattle.schema.specs.Values.{ValueTree, null, boolean, integer, bytes, group, list, ValueTrees, no_values, value}
use Rattle.leaftext.specs.declared.leaf_form.Form.{Form}
use Rattle.leaftext.specs.Forms.{form_if, form_read, form_bytes_read}
use Rattle.rowtext.specs.Json.{hex_name}
use Rattle.schema.specs.Shape.{Field, leaf, fields, Fields, no_fields, field, name_of}
use Rattle.schema.specs.Fits.{fits_leaf}

-- the signed number of the same bits
abbrev pub signed_of_bits : Kind → ℕ → Option ℤ
signed_of_bits Int32 n = if nat_lt n (2 ^ 32) then Some (cast_signed w32 n) else None
signed_of_bits _ n = Some (cast_signed w64 n)

-- the integer that a number is; where the order of the leaf is unsigned, by its bits
abbrev pub number_read : Kind → Option Order → Num → Option ℤ
number_read k (Some Unsigned) n = option_and_then (signed_of_bits k) (as_u64 n)
number_read k _ n = as_i64 n

-- the bytes whose hexadecimal digits, in lower case, these are
abbrev pub bytes_of_digits : List ℕ → Option (List ℕ)
bytes_of_digits s = option_and_then (λ b. if bytes_eq (encode_lower b) s then Some b else None) (result_ok (decode_of s))

-- text is read as it is where the leaf's bytes are text, and else as digits
abbrev pub bytes_read : LeafType → List ℕ → Option (List ℕ)
bytes_read t s = if is_text t.kind t.annotation then Some s else bytes_of_digits s

-- the value that a JSON value is by its kind
abbrev pub scalar_read : LeafType → Data → Option ValueTree
scalar_read t (json.boolean b) = Some (boolean b)
scalar_read t (json.number n) = option_map integer (number_read t.kind (order_of t) n)
scalar_read t (json.string s) = option_map bytes (bytes_read t s)
scalar_read t _ = None

-- the members of other names
abbrev pub without : List ℕ → Members → Members
without k no_members = no_members
without k (member l d ms) = match_ordering (slice_cmp nat_cmp k l) (member l d (without k ms)) ms (member l d (without k ms))

-- the bytes whose digits a string is
abbrev pub digits_read : Data → Option (List ℕ)
digits_read (json.string s) = bytes_of_digits s
digits_read _ = None

-- a member, if no others are left
abbrev pub if_alone : Option Data → Members → Option Data
if_alone found no_members = found
if_alone found (member k d ms) = None

-- the bytes that an object with one member, hex, has the digits of
abbrev pub hex_read : Members → Option (List ℕ)
hex_read ms = option_and_then digits_read (if_alone (get_member hex_name ms) (without hex_name ms))

-- the value that a text of this form is read as: a number, or bytes
abbrev pub text_read_as : Form → List ℕ → Option ValueTree
text_read_as form s = option_or (option_map integer (form_read form s)) (option_map bytes (form_bytes_read form s))

-- the value that a JSON value is by its kind, where the values have texts of this form: a string is read as a text, an object by its digits, and all else
-- as without texts
abbrev pub scalar_by : Option Form → LeafType → Data → Option ValueTree
scalar_by None t d = scalar_read t d
scalar_by (Some form) t (json.string s) = text_read_as form s
scalar_by (Some form) t (json.object ms) = option_map bytes (hex_read ms)
scalar_by (Some form) t d = scalar_read t d

-- a value of a leaf, its repetition aside, which fits it, where the values have texts of this form
abbrev pub leaf_read_by : Option Form → LeafType → Data → Option ValueTree
leaf_read_by form t d = option_and_then (λ v. if fits_leaf t v then Some v else None) (scalar_by form t d)

-- a value of a leaf, its repetition aside, which fits it, with texts or without
abbrev pub leaf_read_as : Bool → LeafType → Data → Option ValueTree
leaf_read_as texts t = leaf_read_by (form_if texts t) t

-- a value and those behind it
abbrev pub value_before : Option ValueTree → Option ValueTrees → Option ValueTrees
value_before (Some v) vs = option_map (value v) vs
value_before None vs = None

-- each item of an array
abbrev pub items_read : (Data → Option ValueTree) → Items → Option ValueTrees
items_read inside no_items = Some no_values
items_read inside (item d ds) = value_before (inside d) (items_read inside ds)

-- an OPTIONAL member may be null or absent, a REPEATED one is an array or absent
abbrev pub read_as : Repetition → (Data → Option ValueTree) → Option Data → Option ValueTree
read_as Required inside None = None
read_as Required inside (Some d) = inside d
read_as Optional inside None = Some null
read_as Optional inside (Some json.null) = Some null
read_as Optional inside (Some d) = inside d
read_as Repeated inside None = Some (list no_values)
read_as Repeated inside (Some (json.array ds)) = option_map list (items_read inside ds)
read_as Repeated inside (Some d) = None

-- a group is an object
abbrev pub object_read : (Members → Option ValueTrees) → Data → Option ValueTree
object_read all (json.object ms) = option_map group (all ms)
object_read all _ = None

-- nothing where a member is left, which is unknown
abbrev pub none_left : Members → Option ValueTrees
none_left no_members = Some no_values
none_left (member k d ms) = None

-- a value of a field; a value for each field, which takes the member of its name, and no member is left
abbrev mutual
  pub inside_read_as : Bool → Field → Data → Option ValueTree
  inside_read_as texts (leaf n r t) d = leaf_read_as texts t d
  inside_read_as texts (fields n r a fs) d = object_read (members_read_as texts fs) d

  pub field_read_as : Bool → Field → Option Data → Option ValueTree
  field_read_as texts (leaf n r t) d = read_as r (leaf_read_as texts t) d
  field_read_as texts (fields n r a fs) d = read_as r (object_read (members_read_as texts fs)) d

  pub members_read_as : Bool → Fields → Members → Option ValueTrees
  members_read_as texts no_fields ms = none_left ms
  members_read_as texts (field f fs) ms = value_before (field_read_as texts f (get_member (name_of f) ms)) (members_read_as texts fs (without (name_of f) ms))

-- the row that a JSON value is: an object with a member for each top-level field
abbrev pub row_of_as : Bool → Fields → Data → Option ValueTrees
row_of_as texts fs (json.object ms) = members_read_as texts fs ms
row_of_as texts fs _ = None

-- ---- without texts

-- a value of a leaf, its repetition aside, which fits it, without texts
abbrev pub leaf_read : LeafType → Data → Option ValueTree
leaf_read = leaf_read_as false

-- a value of a field, its repetition aside, without texts
abbrev pub inside_read : Field → Data → Option ValueTree
inside_read = inside_read_as false

-- a value of a field, without texts
abbrev pub field_read : Field → Option Data → Option ValueTree
field_read = field_read_as false

-- a value for each field, without texts
abbrev pub members_read : Fields → Members → Option ValueTrees
members_read = members_read_as false

-- the row that a JSON value is without texts of dates, times and decimals: they are numbers
abbrev pub row_of : Fields → Data → Option ValueTrees
row_of = row_of_as false

-- the object that the text of a row line is
abbrev pub line_of : List ℕ → Option Members
line_of text = option_and_then as_object (read text)
