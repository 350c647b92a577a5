-- Answers as JSON values (RFC 8259), the members of each object in the byte order of their names; or the refusal of an answer that has none.
use Rattle.std.specs.Prelude.{ℕ, Bool, true, false, codes, List, [], ◌∷◌, map, Option, Some, if◌then◌else◌, Result, Ok, Err}
use Rattle.std.specs.Str.{is_utf8}
use Rattle.serde_json.specs.Data.{Data, number, unsigned, string, boolean, array, object, Members, no_members, put}
use Rattle.serde_json.specs.Find.{of_integer}
use Rattle.serde_json.specs.View.{items_of}
use Rattle.bits.specs.declared.refusal.Refusal.{Refusal}
use Rattle.bits.specs.declared.refusal.Refusal.TheVariants as refusal
use Rattle.schema.specs.Values.{ValueTree, ValueTrees, no_values, value as item}
use Rattle.schema.specs.Values as value
use Rattle.schema.specs.Shape.{Field, Fields, name_of}
use Rattle.schema.specs.Fits.{fits}
use Rattle.schema.specs.Keys.{field_at}
use Rattle.schema.specs.Views.{key_view, rows_view}
use Rattle.filter.specs.Terms.{each_of}
use Rattle.table.specs.declared.answer.Answer.{Answer}
use Rattle.table.specs.declared.answer.Answer.TheVariants.{Done, Job, Cursor, Batch, End, More, Plan, Groups, Count, Accepted, Refused}
use Rattle.table.specs.declared.answer.GroupInfo.{GroupInfo}
use Rattle.rowtext.specs.Json.{field_json_as}
use Rattle.jsonrows.specs.Filters.{◌>>=◌}

-- an object of one member
abbrev pub one_member : List ℕ → Data → Data
one_member name d = object (put name d no_members)

-- a natural number as a JSON number
abbrev pub natural : ℕ → Data
natural n = number (unsigned n)

-- natural numbers as an array, in their order
abbrev pub naturals : List ℕ → Data
naturals ns = array (items_of (map natural ns))

-- ---- rows of a batch

-- a value at its column, with texts or without, before the columns that come later
abbrev pub put_column_as : Bool → Option Field → ValueTree → Result Members Refusal → Result Members Refusal
put_column_as texts (Some f) v (Ok ms) = if fits f v then Ok (put (name_of f) (field_json_as texts f v) ms) else Err refusal.RowShape
put_column_as texts _ v _ = Err refusal.RowShape

-- The members of a row of the columns at these places of the schema, with texts or without. RowShape where a place has no field, or a value does not fit it.
abbrev pub columns_json_as : Bool → Fields → List ℕ → ValueTrees → Result Members Refusal
columns_json_as texts fs [] no_values = Ok no_members
columns_json_as texts fs (i ∷ places) (item v vs) = put_column_as texts (field_at i fs) v (columns_json_as texts fs places vs)
columns_json_as texts fs _ _ = Err refusal.RowShape

-- a row of a batch as an object with a member for each of the columns at these places, with texts or without; RowShape if it does not fit them
abbrev pub row_of_columns_as : Bool → Fields → List ℕ → ValueTrees → Result Data Refusal
row_of_columns_as texts fs places row = columns_json_as texts fs places row >>= (λ ms. Ok (object ms))

-- ---- groups

-- a value of a key column
abbrev pub key_value_json : ValueTree → Result Data Refusal
key_value_json (value.boolean b) = Ok (boolean b)
key_value_json (value.integer z) = Ok (number (of_integer z))
key_value_json (value.bytes s) = if is_utf8 s then Ok (string s) else Err refusal.RowShape
key_value_json _ = Err refusal.RowShape

-- a group: the bytes of its chunks, its key in the order of the folders, its number, how many rows it has
abbrev pub group_members : GroupInfo → List Data → Members
group_members g key =
    put (codes "bytes") (natural g.bytes) (put (codes "key") (array (items_of key)) (put (codes "number") (natural g.number) (put (codes "rows") (natural g.rows) no_members)))

-- a group as an object of its `bytes`, `key`, `number` and `rows`; RowShape if its key has a value that no key column has
abbrev pub group_json : GroupInfo → Result Data Refusal
group_json g = each_of key_value_json (key_view g.key) >>= (λ key. Ok (object (group_members g key)))

-- ---- refusals

-- the number that is printed for a refusal, from 1 to 29
abbrev pub refusal_number : Refusal → ℕ
refusal_number refusal.Truncated = 1
refusal_number refusal.Magic = 2
refusal_number refusal.Thrift = 3
refusal_number refusal.Schema = 4
refusal_number refusal.Codec = 5
refusal_number (refusal.Float path) = 6
refusal_number (refusal.Int96 path) = 7
refusal_number refusal.Encoding = 8
refusal_number refusal.Page = 9
refusal_number refusal.Levels = 10
refusal_number refusal.Value = 11
refusal_number refusal.Utf8 = 12
refusal_number refusal.Limit = 13
refusal_number refusal.RowShape = 14
refusal_number refusal.NoColumn = 15
refusal_number refusal.Unordered = 16
refusal_number refusal.Key = 17
refusal_number refusal.NoGroup = 18
refusal_number refusal.Stale = 19
refusal_number refusal.NoJob = 20
refusal_number refusal.NoCursor = 21
refusal_number refusal.Full = 22
refusal_number refusal.NoTable = 23
refusal_number refusal.Exists = 24
refusal_number refusal.Device = 25
refusal_number refusal.InDoubt = 26
refusal_number refusal.Closed = 27
refusal_number refusal.Memory = 28
refusal_number refusal.Script = 29

-- the name that is printed for a refusal, without the path of a field
abbrev pub refusal_name : Refusal → List ℕ
refusal_name refusal.Truncated = codes "Truncated"
refusal_name refusal.Magic = codes "Magic"
refusal_name refusal.Thrift = codes "Thrift"
refusal_name refusal.Schema = codes "Schema"
refusal_name refusal.Codec = codes "Codec"
refusal_name (refusal.Float path) = codes "Float"
refusal_name (refusal.Int96 path) = codes "Int96"
refusal_name refusal.Encoding = codes "Encoding"
refusal_name refusal.Page = codes "Page"
refusal_name refusal.Levels = codes "Levels"
refusal_name refusal.Value = codes "Value"
refusal_name refusal.Utf8 = codes "Utf8"
refusal_name refusal.Limit = codes "Limit"
refusal_name refusal.RowShape = codes "RowShape"
refusal_name refusal.NoColumn = codes "NoColumn"
refusal_name refusal.Unordered = codes "Unordered"
refusal_name refusal.Key = codes "Key"
refusal_name refusal.NoGroup = codes "NoGroup"
refusal_name refusal.Stale = codes "Stale"
refusal_name refusal.NoJob = codes "NoJob"
refusal_name refusal.NoCursor = codes "NoCursor"
refusal_name refusal.Full = codes "Full"
refusal_name refusal.NoTable = codes "NoTable"
refusal_name refusal.Exists = codes "Exists"
refusal_name refusal.Device = codes "Device"
refusal_name refusal.InDoubt = codes "InDoubt"
refusal_name refusal.Closed = codes "Closed"
refusal_name refusal.Memory = codes "Memory"
refusal_name refusal.Script = codes "Script"

-- a refusal as an object of its `name` and its number, `refused`
abbrev pub refused_json : Refusal → Data
refused_json r = object (put (codes "name") (string (refusal_name r)) (put (codes "refused") (natural (refusal_number r)) no_members))

-- ---- answers

-- an object of one member, the array of these values; or their refusal
abbrev pub listed_as : List ℕ → Result (List Data) Refusal → Result Data Refusal
listed_as name ds = ds >>= (λ all. Ok (one_member name (array (items_of all))))

-- an answer over the table's schema as an object, the rows of a batch with texts or without;
-- RowShape if a row of a batch does not fit its columns, or a key has a value that no key column has
abbrev pub answer_json_as : Bool → Fields → Answer → Result Data Refusal
answer_json_as texts fs (Done n) = Ok (one_member (codes "done") (natural n))
answer_json_as texts fs (Job n) = Ok (one_member (codes "job") (natural n))
answer_json_as texts fs (Cursor n) = Ok (one_member (codes "cursor") (natural n))
answer_json_as texts fs (Batch b) = listed_as (codes "batch") (each_of (row_of_columns_as texts fs b.places.items) (rows_view b.rows.items))
answer_json_as texts fs End = Ok (one_member (codes "end") (boolean true))
answer_json_as texts fs (More left) = Ok (one_member (codes "more") (boolean left))
answer_json_as texts fs (Plan ns) = Ok (one_member (codes "plan") (naturals ns.items))
answer_json_as texts fs (Groups gs) = listed_as (codes "groups") (each_of group_json gs.items)
answer_json_as texts fs (Count n) = Ok (one_member (codes "count") (natural n))
answer_json_as texts fs Accepted = Ok (one_member (codes "ok") (boolean true))
answer_json_as texts fs (Refused r) = Ok (refused_json r)

-- ---- without texts

-- an answer over the table's schema as an object, without texts of dates, times and decimals
abbrev pub answer_json : Fields → Answer → Result Data Refusal
answer_json = answer_json_as false
