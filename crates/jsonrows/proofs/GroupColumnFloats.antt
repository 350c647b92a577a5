-- No number of a group and of what is known of its columns is a float, so that its text is known.
use Rattle.std.proofs.Common.{◌≡◌, codes, ℕ, ℤ, List, [], ◌∷◌, Bool, true, false, Option, Some, None, Result, Ok, Err, map, refl, subst}
use Rattle.std.specs.Prelude.{IfOk}
use Rattle.serde_json.specs.Data.{Data, string, array, object, Members, no_members, put}
use Rattle.serde_json.specs.Data as json
use Rattle.serde_json.specs.View.{items_of}
use Rattle.serde_json.specs.Written.{has_float, items_have_float, members_have_float}
use Rattle.bits.specs.declared.refusal.Refusal.{Refusal}
use Rattle.schema.specs.declared.value.Kind.{Kind}
use Rattle.schema.specs.declared.order.Order.{Order}
use Rattle.schema.specs.declared.order.Order.TheVariants.{Unsigned}
use Rattle.schema.specs.Annotations.{LeafType, order_of}
use Rattle.schema.specs.Values.{ValueTree, null, boolean, integer, bytes, group, list}
use Rattle.schema.specs.Stripe.{Leaf}
use Rattle.schema.specs.Views.{key_view}
use Rattle.statistics.specs.Bounds.{Statistics}
use Rattle.filter.specs.Terms.{each_of}
use Rattle.table.specs.declared.answer.GroupInfo.{GroupInfo}
use Rattle.leaftext.specs.declared.leaf_form.Form.{Form}
use Rattle.leaftext.specs.Forms.{form_if, form_text, form_bytes_text}
use Rattle.rowtext.specs.Json.{number_json, text_or, leaf_json, hex_json, leaf_shown, leaf_json_as}
use Rattle.jsonrows.specs.Filters.{◌>>=◌}
use Rattle.jsonrows.specs.Answers.{natural, key_value_json}
use Rattle.jsonrows.specs.GroupColumns.{column_json, put_bound, known_members, known_json, group_and_columns, group_and_columns_json}
use Rattle.jsonrows.proofs.AnswerFloats.{put_none, integer_none, key_none, each_none, AreWhole, IsWhole}

number_none : (k : Kind) (o : Option Order) (z : ℤ) → has_float (json.number (number_json k o z)) ≡ false
number_none k (Some Unsigned) z = refl
number_none k None z = integer_none z
number_none k (Some _) z = integer_none z

leaf_none : (t : LeafType) (v : ValueTree) → has_float (leaf_json t v) ≡ false
leaf_none t (boolean b) = refl
leaf_none t (integer z) = number_none t.kind (order_of t) z
leaf_none t (bytes s) = refl
leaf_none t _ = refl

text_none : (text : Option (List ℕ)) (d : Data) → has_float d ≡ false → has_float (text_or text d) ≡ false
text_none (Some text) d h = refl
text_none None d h = h

shown_none : (form : Option Form) (t : LeafType) (v : ValueTree) → has_float (leaf_shown form t v) ≡ false
shown_none None t v = leaf_none t v
shown_none (Some form) t (integer z) = text_none (form_text form z) (leaf_json t (integer z)) (leaf_none t (integer z))
shown_none (Some form) t null = leaf_none t null
shown_none (Some form) t (boolean b) = leaf_none t (boolean b)
shown_none (Some form) t (bytes s) = text_none (form_bytes_text form s) (hex_json s) refl
shown_none (Some form) t (group vs) = leaf_none t (group vs)
shown_none (Some form) t (list vs) = leaf_none t (list vs)

bound_none : (texts : Bool) (t : LeafType) (name : List ℕ) (bound : Option ValueTree) (ms : Members) → members_have_float ms ≡ false → members_have_float (put_bound texts t name bound ms) ≡ false
bound_none texts t name (Some v) ms h = put_none name (leaf_json_as texts t v) ms (shown_none (form_if texts t) t v) h
bound_none texts t name None ms h = h

names_none : (names : List (List ℕ)) → items_have_float (items_of (map string names)) ≡ false
names_none [] = refl
names_none (n ∷ names) = names_none names

column_none : (names : List (List ℕ)) → has_float (column_json names) ≡ false
column_none [] = refl
column_none (n ∷ []) = refl
column_none (n ∷ m ∷ names) = names_none (n ∷ m ∷ names)

known_members_none : (texts : Bool) (leaf : Leaf) (s : Statistics) → members_have_float (known_members texts leaf s) ≡ false
known_members_none texts leaf s =
    let t = leaf.leaf_type in
    let nulls = put (codes "nulls") (natural s.nulls) no_members in
    let least = put_bound texts t (codes "min") s.min nulls in
    put_none (codes "column") (column_json leaf.path) (put_bound texts t (codes "max") s.max least) (column_none leaf.path)
    (bound_none texts t (codes "max") s.max least (bound_none texts t (codes "min") s.min nulls refl))

known_none : (texts : Bool) (leaves : List Leaf) (known : List Statistics) → items_have_float (items_of (known_json texts leaves known)) ≡ false
known_none texts [] known = refl
known_none texts (leaf ∷ leaves) [] = refl
known_none texts (leaf ∷ leaves) (s ∷ known) = rw (known_members_none texts leaf s) (known_none texts leaves known)

members_none : (g : GroupInfo) (columns key : List Data) → items_have_float (items_of columns) ≡ false → items_have_float (items_of key) ≡ false → members_have_float (group_and_columns g columns key) ≡ false
members_none g columns key h k =
    let rows = put (codes "rows") (natural g.rows) no_members in
    let number = put (codes "number") (natural g.number) rows in
    let keyed = put (codes "key") (array (items_of key)) number in
    put_none (codes "bytes") (natural g.bytes) (put (codes "columns") (array (items_of columns)) keyed) refl
    (put_none (codes "columns") (array (items_of columns)) keyed h
    (put_none (codes "key") (array (items_of key)) number k (put_none (codes "number") (natural g.number) rows refl (put_none (codes "rows") (natural g.rows) no_members refl refl))))

whole : (texts : Bool) (leaves : List Leaf) (g : GroupInfo) (known : List Statistics) → IsWhole (group_and_columns_json texts leaves g known)
whole texts leaves g known = by (each_of key_value_json (key_view g.key)) (each_none key_value_json key_none (key_view g.key))
  where
    by : (r : Result (List Data) Refusal) → AreWhole r → IsWhole (r >>= (λ key. Ok (object (group_and_columns g (known_json texts leaves known) key))))
    by (Ok key) h = members_none g (known_json texts leaves known) key (known_none texts leaves known) h
    by (Err e) h = tt

pub group_and_columns_none : (texts : Bool) (leaves : List Leaf) (g : GroupInfo) (known : List Statistics) (d : Data) → group_and_columns_json texts leaves g known ≡ Ok d → has_float d ≡ false
group_and_columns_none texts leaves g known d e = subst IsWhole e (whole texts leaves g known)
