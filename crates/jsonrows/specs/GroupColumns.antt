-- What a root knows of a group's columns, as JSON values (RFC 8259): parquet.thrift, Statistics (max_value, min_value, null_count).
use Rattle.std.specs.Prelude.{ℕ, Bool, codes, List, [], ◌∷◌, map, Option, Some, None, Result, Ok}
use Rattle.serde_json.specs.Data.{Data, string, array, object, Members, no_members, put}
use Rattle.serde_json.specs.View.{items_of}
use Rattle.bits.specs.declared.refusal.Refusal.{Refusal}
use Rattle.schema.specs.Annotations.{LeafType}
use Rattle.schema.specs.Values.{ValueTree}
use Rattle.schema.specs.Stripe.{Leaf}
use Rattle.schema.specs.Views.{key_view}
use Rattle.statistics.specs.Bounds.{Statistics}
use Rattle.filter.specs.Terms.{each_of}
use Rattle.table.specs.declared.answer.GroupInfo.{GroupInfo}
use Rattle.rowtext.specs.Json.{leaf_json_as}
use Rattle.jsonrows.specs.Filters.{◌>>=◌}
use Rattle.jsonrows.specs.Answers.{natural, key_value_json}

-- the column of a leaf, as a filter names it: its name at the top level, or an array of the names on the path to it
abbrev pub column_json : List (List ℕ) → Data
column_json (name ∷ []) = string name
column_json names = array (items_of (map string names))

-- a bound of a leaf's values, if it is known, put at a name as rows show such a value, with texts or without
abbrev pub put_bound : Bool → LeafType → List ℕ → Option ValueTree → Members → Members
put_bound texts t name (Some v) ms = put name (leaf_json_as texts t v) ms
put_bound texts t name None ms = ms

-- what is known of a column: its name, the greatest and the least value as far as they are known, and how many nulls it has
abbrev pub known_members : Bool → Leaf → Statistics → Members
known_members texts leaf s =
    put (codes "column") (column_json leaf.path)
    (put_bound texts leaf.leaf_type (codes "max") s.max (put_bound texts leaf.leaf_type (codes "min") s.min (put (codes "nulls") (natural s.nulls) no_members)))

-- what is known of columns, each with the leaf at the same place
abbrev pub known_json : Bool → List Leaf → List Statistics → List Data
known_json texts (leaf ∷ leaves) (s ∷ known) = object (known_members texts leaf s) ∷ known_json texts leaves known
known_json texts _ _ = []

-- a group: the bytes of its chunks, its columns, its key in the order of the folders, its number, how many rows it has
abbrev pub group_and_columns : GroupInfo → List Data → List Data → Members
group_and_columns g columns key =
    put (codes "bytes") (natural g.bytes)
    (put (codes "columns") (array (items_of columns))
    (put (codes "key") (array (items_of key)) (put (codes "number") (natural g.number) (put (codes "rows") (natural g.rows) no_members))))

-- a group as an object of its `bytes`, its `columns`, of which this is known, its `key`, `number` and `rows`, with texts or without;
-- RowShape if its key has a value that no key column has
abbrev pub group_and_columns_json : Bool → List Leaf → GroupInfo → List Statistics → Result Data Refusal
group_and_columns_json texts leaves g known =
    each_of key_value_json (key_view g.key) >>= (λ key. Ok (object (group_and_columns g (known_json texts leaves known) key)))
