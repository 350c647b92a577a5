-- The JSON value of a row can be printed and read again: its numbers are exact, its names rise, and it nests no deeper than the fields.
use Rattle.std.proofs.Common.{false, ◌≡◌, ℕ, suc, ◌*◌, ◌≤◌, max, ℤ, List, Bool, true, Option, Some, None, Ordering, Less, Equal, Greater, nat_cmp, refl, ap, ◌∙◌, arith}
use Rattle.std.specs.Prelude.{IsTrue}
use Rattle.std.specs.Cmp.Lexicographic.{slice_cmp}
use Rattle.std.specs.Ordering.{match_ordering, ordering_reverse}
use Rattle.std.proofs.lemmas.Cmp.{nat_list_cmp_total}
use Rattle.std.proofs.lemmas.Bool.{and_parts as and_true}
use Rattle.serde_json.specs.Data.{Data, Num, Items, Members, no_members, member, put, depth, items_depth, members_depth}
use Rattle.serde_json.specs.Data as json
use Rattle.schema.specs.declared.value.Repetition.{Repetition}
use Rattle.schema.specs.declared.value.Repetition.TheVariants.{Required, Optional, Repeated}
use Rattle.schema.specs.declared.value.Kind.{Kind}
use Rattle.schema.specs.declared.order.Order.{Order}
use Rattle.schema.specs.declared.order.Order.TheVariants.{Signed, Unsigned, FalseFirst, Bytewise}
use Rattle.schema.specs.Annotations.{LeafType, order_of}
use Rattle.schema.specs.Values.{ValueTree, null, boolean, integer, bytes, group, list, ValueTrees, no_values, value, each}
use Rattle.schema.specs.Shape.{Field, leaf, fields, Fields, no_fields, field, name_of}
use Rattle.schema.specs.Fits.{fits_kind, fits_leaf, fits_as, is_group, fits, fits_each}
use Rattle.schema.specs.Reading.{tall, tallest}
use Rattle.leaftext.specs.declared.leaf_form.Form.{Form}
use Rattle.leaftext.specs.Forms.{form_if, form_text, form_bytes_text}
use Rattle.rowtext.specs.Json.{number_json, leaf_json, text_or, hex_json, leaf_shown, leaf_json_as, items_json, json_as, object_json, field_json_as, members_json, members_json_as}
use Rattle.rowtext.proofs.JsonTexts.{IsExact, IsBefore, AreInOrder, IsReadable, AreReadable, HaveReadable}
use Rattle.rowtext.proofs.Numbers.{integer_exact, bits_exact}

-- ---- names that rise

pub before_further : (k l : List ℕ) (ms : Members) → slice_cmp nat_cmp k l ≡ Less → IsBefore l ms → IsBefore k ms
before_further k l no_members less h = tt
before_further k l (member j e ms) less h = (nat_list_cmp_total.trans k l j less h.0, before_further k l ms less h.1)

pub less_turned : (k l : List ℕ) → slice_cmp nat_cmp k l ≡ Greater → slice_cmp nat_cmp l k ≡ Less
less_turned k l h = nat_list_cmp_total.antisymm l k ∙ ap ordering_reverse h

before_at : (o : Ordering) (j : List ℕ) (a b c : Members) → IsBefore j a → IsBefore j b → IsBefore j c → IsBefore j (match_ordering o a b c)
before_at Less j a b c x y z = x
before_at Equal j a b c x y z = y
before_at Greater j a b c x y z = z

before_put : (j k : List ℕ) (d : Data) (ms : Members) → slice_cmp nat_cmp j k ≡ Less → IsBefore j ms → IsBefore j (put k d ms)
before_put j k d no_members less h = (less, tt)
before_put j k d (member l e ms) less h = before_at (slice_cmp nat_cmp k l) j _ _ _ (less, h) h (h.0, before_put j k d ms less h.1)

order_at : (o : Ordering) (k l : List ℕ) (d e : Data) (ms : Members) → slice_cmp nat_cmp k l ≡ o → AreInOrder (member l e ms) → AreInOrder (put k d ms)
    → AreInOrder (match_ordering o (member k d (member l e ms)) (member l d ms) (member l e (put k d ms)))
order_at Less k l d e ms is h later = ((is, before_further k l ms is h.0), h)
order_at Equal k l d e ms is h later = h
order_at Greater k l d e ms is h later = (before_put l k d ms (less_turned k l is) h.0, later)

pub order_put : (k : List ℕ) (d : Data) (ms : Members) → AreInOrder ms → AreInOrder (put k d ms)
order_put k d no_members h = (tt, tt)
order_put k d (member l e ms) h = order_at (slice_cmp nat_cmp k l) k l d e ms refl h (order_put k d ms h.1)

readable_at : (o : Ordering) (a b c : Members) → HaveReadable a → HaveReadable b → HaveReadable c → HaveReadable (match_ordering o a b c)
readable_at Less a b c x y z = x
readable_at Equal a b c x y z = y
readable_at Greater a b c x y z = z

readable_put : (k : List ℕ) (d : Data) (ms : Members) → IsReadable d → HaveReadable ms → HaveReadable (put k d ms)
readable_put k d no_members x h = (x, tt)
readable_put k d (member l e ms) x h = readable_at (slice_cmp nat_cmp k l) _ _ _ (x, h) (x, h.1) (h.0, readable_put k d ms x h.1)

-- ---- values that fit can be read

-- where the value fits, what is shown of it can be read
abbrev AreShown : (ValueTree → Bool) → (ValueTree → Data) → Type 0
AreShown p shown = (v : ValueTree) → p v ≡ true → IsReadable (shown v)

pub number_exact : (k : Kind) (o : Option Order) (z : ℤ) → fits_kind k (integer z) ≡ true → IsExact (number_json k o z)
number_exact k None z h = integer_exact k z h
number_exact k (Some Signed) z h = integer_exact k z h
number_exact k (Some Unsigned) z h = bits_exact k z h
number_exact k (Some FalseFirst) z h = integer_exact k z h
number_exact k (Some Bytewise) z h = integer_exact k z h

plain_shown : (t : LeafType) → AreShown (fits_leaf t) (leaf_json t)
plain_shown t null h = tt
plain_shown t (boolean b) h = tt
plain_shown t (integer z) h = number_exact t.kind (order_of t) z (and_true (fits_kind t.kind (integer z)) _ h).0
plain_shown t (bytes s) h = tt
plain_shown t (group vs) h = tt
plain_shown t (list vs) h = tt

text_shown : (o : Option (List ℕ)) (d : Data) → IsReadable d → IsReadable (text_or o d)
text_shown (Some s) d h = tt
text_shown None d h = h

shown_by : (o : Option Form) (t : LeafType) → AreShown (fits_leaf t) (leaf_shown o t)
shown_by None t v h = plain_shown t v h
shown_by (Some form) t null h = tt
shown_by (Some form) t (boolean b) h = tt
shown_by (Some form) t (integer z) h = text_shown (form_text form z) (leaf_json t (integer z)) (plain_shown t (integer z) h)
shown_by (Some form) t (bytes s) h = text_shown (form_bytes_text form s) (hex_json s) ((tt, tt), (tt, tt))
shown_by (Some form) t (group vs) h = tt
shown_by (Some form) t (list vs) h = tt

items_shown : (p : ValueTree → Bool) (shown : ValueTree → Data) → AreShown p shown → (vs : ValueTrees) → each p vs ≡ true → AreReadable (items_json shown vs)
items_shown p shown one no_values h = tt
items_shown p shown one (value v vs) h = let b = and_true (p v) (each p vs) h in (one v b.0, items_shown p shown one vs b.1)

as_shown : (r : Repetition) (p : ValueTree → Bool) (shown : ValueTree → Data) → AreShown p shown → AreShown (fits_as r p) (json_as r shown)
as_shown Required p shown one v h = one v h
as_shown Optional p shown one null h = tt
as_shown Optional p shown one (boolean b) h = one (boolean b) h
as_shown Optional p shown one (integer z) h = one (integer z) h
as_shown Optional p shown one (bytes s) h = one (bytes s) h
as_shown Optional p shown one (group vs) h = one (group vs) h
as_shown Optional p shown one (list vs) h = one (list vs) h
as_shown Repeated p shown one null h = tt
as_shown Repeated p shown one (boolean b) h = tt
as_shown Repeated p shown one (integer z) h = tt
as_shown Repeated p shown one (bytes s) h = tt
as_shown Repeated p shown one (group vs) h = tt
as_shown Repeated p shown one (list vs) h = items_shown p shown one vs h

module _ (texts : Bool) where
  order_of_members : (fs : Fields) (vs : ValueTrees) → AreInOrder (members_json_as texts fs vs)
  order_of_members no_fields vs = tt
  order_of_members (field f fs) no_values = tt
  order_of_members (field f fs) (value v vs) = order_put (name_of f) (field_json_as texts f v) (members_json_as texts fs vs) (order_of_members fs vs)

  group_shown : (fs : Fields) → ((vs : ValueTrees) → fits_each fs vs ≡ true → HaveReadable (members_json_as texts fs vs)) → AreShown (is_group (fits_each fs)) (object_json (members_json_as texts fs))
  group_shown fs all null h = tt
  group_shown fs all (boolean b) h = tt
  group_shown fs all (integer z) h = tt
  group_shown fs all (bytes s) h = tt
  group_shown fs all (group vs) h = (order_of_members fs vs, all vs h)
  group_shown fs all (list vs) h = tt

  mutual
    field_shown : (f : Field) → AreShown (fits f) (field_json_as texts f)
    field_shown (leaf n r t) v h = as_shown r (fits_leaf t) (leaf_json_as texts t) (shown_by (form_if texts t) t) v h
    field_shown (fields n r a fs) v h = as_shown r (is_group (fits_each fs)) (object_json (members_json_as texts fs)) (group_shown fs (members_shown fs)) v h

    members_shown : (fs : Fields) (vs : ValueTrees) → fits_each fs vs ≡ true → HaveReadable (members_json_as texts fs vs)
    members_shown no_fields vs h = tt
    members_shown (field f fs) no_values h = tt
    members_shown (field f fs) (value v vs) h =
        let b = and_true (fits f v) (fits_each fs vs) h in
        readable_put (name_of f) (field_json_as texts f v) (members_json_as texts fs vs) (field_shown f v b.0) (members_shown fs vs b.1)

  pub row_readable_as : (fs : Fields) (row : ValueTrees) → IsTrue (fits_each fs row) → IsReadable (json.object (members_json_as texts fs row))
  row_readable_as fs row h = (order_of_members fs row, members_shown fs row h)

  -- ---- depth

  depth_at : (o : Ordering) (a b c : Members) (n : ℕ) → members_depth a ≤ n → members_depth b ≤ n → members_depth c ≤ n → members_depth (match_ordering o a b c) ≤ n
  depth_at Less a b c n x y z = x
  depth_at Equal a b c n x y z = y
  depth_at Greater a b c n x y z = z

  depth_put : (k : List ℕ) (d : Data) (ms : Members) (n : ℕ) → depth d ≤ n → members_depth ms ≤ n → members_depth (put k d ms) ≤ n
  depth_put k d no_members n x y = omega (arith, x)
  depth_put k d (member l e ms) n x y = depth_at (slice_cmp nat_cmp k l) _ _ _ n (omega (arith, x, y)) (omega (arith, x, y)) (let z = depth_put k d ms n x (omega (arith, y)) in omega (arith, y, z))

  abbrev AreFlat : ℕ → (ValueTree → Data) → Type 0
  AreFlat n shown = (v : ValueTree) → depth (shown v) ≤ n

  plain_flat : (t : LeafType) → AreFlat 0 (leaf_json t)
  plain_flat t null = omega arith
  plain_flat t (boolean b) = omega arith
  plain_flat t (integer z) = omega arith
  plain_flat t (bytes s) = omega arith
  plain_flat t (group vs) = omega arith
  plain_flat t (list vs) = omega arith

  text_flat : (o : Option (List ℕ)) (d : Data) → depth d ≤ 1 → depth (text_or o d) ≤ 1
  text_flat (Some s) d h = omega arith
  text_flat None d h = h

  flat_by : (o : Option Form) (t : LeafType) → AreFlat 1 (leaf_shown o t)
  flat_by None t v = let a = plain_flat t v in omega (arith, a)
  flat_by (Some form) t null = omega arith
  flat_by (Some form) t (boolean b) = omega arith
  flat_by (Some form) t (integer z) = text_flat (form_text form z) (leaf_json t (integer z)) (omega arith)
  flat_by (Some form) t (bytes s) = text_flat (form_bytes_text form s) (hex_json s) (omega arith)
  flat_by (Some form) t (group vs) = omega arith
  flat_by (Some form) t (list vs) = omega arith

  items_flat : (n : ℕ) (shown : ValueTree → Data) → AreFlat n shown → (vs : ValueTrees) → items_depth (items_json shown vs) ≤ n
  items_flat n shown one no_values = omega arith
  items_flat n shown one (value v vs) = let a = one v in let b = items_flat n shown one vs in omega (arith, a, b)

  as_flat : (n : ℕ) (r : Repetition) (shown : ValueTree → Data) → AreFlat n shown → AreFlat (suc n) (json_as r shown)
  as_flat n Required shown one v = let a = one v in omega (arith, a)
  as_flat n Optional shown one null = omega arith
  as_flat n Optional shown one (boolean b) = let a = one (boolean b) in omega (arith, a)
  as_flat n Optional shown one (integer z) = let a = one (integer z) in omega (arith, a)
  as_flat n Optional shown one (bytes s) = let a = one (bytes s) in omega (arith, a)
  as_flat n Optional shown one (group vs) = let a = one (group vs) in omega (arith, a)
  as_flat n Optional shown one (list vs) = let a = one (list vs) in omega (arith, a)
  as_flat n Repeated shown one null = omega arith
  as_flat n Repeated shown one (boolean b) = omega arith
  as_flat n Repeated shown one (integer z) = omega arith
  as_flat n Repeated shown one (bytes s) = omega arith
  as_flat n Repeated shown one (group vs) = omega arith
  as_flat n Repeated shown one (list vs) = let a = items_flat n shown one vs in omega (arith, a)

  group_flat : (n : ℕ) (shown : ValueTrees → Members) → ((vs : ValueTrees) → members_depth (shown vs) ≤ n) → AreFlat (suc n) (object_json shown)
  group_flat n shown one null = omega arith
  group_flat n shown one (boolean b) = omega arith
  group_flat n shown one (integer z) = omega arith
  group_flat n shown one (bytes s) = omega arith
  group_flat n shown one (group vs) = let a = one vs in omega (arith, a)
  group_flat n shown one (list vs) = omega arith

  mutual
    field_flat : (f : Field) (v : ValueTree) → depth (field_json_as texts f v) ≤ 2 * tall f
    field_flat (leaf n r t) v = let a = as_flat 1 r (leaf_json_as texts t) (flat_by (form_if texts t) t) v in omega (arith, a)
    field_flat (fields n r a fs) v =
        let g = group_flat (2 * tallest fs) (members_json_as texts fs) (members_flat fs) in
        let b = as_flat (suc (2 * tallest fs)) r (object_json (members_json_as texts fs)) g v in
        omega (arith, b)

    pub members_flat : (fs : Fields) (vs : ValueTrees) → members_depth (members_json_as texts fs vs) ≤ 2 * tallest fs
    members_flat no_fields vs = omega arith
    members_flat (field f fs) no_values = omega arith
    members_flat (field f fs) (value v vs) =
        let a = field_flat f v in
        let b = members_flat fs vs in
        depth_put (name_of f) (field_json_as texts f v) (members_json_as texts fs vs) (2 * max (tall f) (tallest fs)) (omega (arith, a)) (omega (arith, b))

pub row_readable : (fs : Fields) (row : ValueTrees) → IsTrue (fits_each fs row) → IsReadable (json.object (members_json fs row))
row_readable = row_readable_as false
