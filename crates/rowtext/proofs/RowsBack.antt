-- The text of a row that fits is read as that row.
use Rattle.std.proofs.Common.{◌≡◌, ◌≢◌, ℕ, zero, suc, nat_lt, ◌≤◌, List, [], ◌∷◌, Bool, true, false, true≢false, ◌&&◌, ℤ, Option, Some, None, option_map, option_and_then, if◌then◌else◌, Ordering, Less, Equal, Greater, nat_cmp, refl, sym, ap, ap₂, ◌∙◌, arith}
use Rattle.std.specs.List.{AllByRecursion}
use Rattle.std.specs.Option.{option_or}
use Rattle.std.specs.Str.{is_utf8}
use Rattle.std.specs.Cmp.Lexicographic.{slice_cmp}
use Rattle.std.specs.Ordering.{match_ordering}
use Rattle.std.proofs.lemmas.Bool.Decides.{Decides-ltb}
use Rattle.std.proofs.lemmas.Cmp.{nat_list_cmp_total, tied_itself}
use Rattle.std.proofs.lemmas.Map.Lookups.{exact_bytes}
use Rattle.std.proofs.lemmas.Bool.{and_parts as and_true}
use Rattle.hex.specs.Hex.{encode_lower, IsBytes}
use Rattle.serde_json.specs.Data.{Data, Items, Members, no_members, member, put, depth}
use Rattle.serde_json.specs.Data as json
use Rattle.serde_json.specs.Find.{get_member}
use Rattle.serde_json.proofs.Views.{get_member-put}
use Rattle.schema.specs.declared.value.Repetition.{Repetition}
use Rattle.schema.specs.declared.value.Repetition.TheVariants.{Required, Optional, Repeated}
use Rattle.schema.specs.declared.value.Kind.{Kind}
use Rattle.schema.specs.declared.value.Kind.TheVariants.{Boolean, Int32, Int64, ByteArray, FixedLenByteArray}
use Rattle.schema.specs.Annotations.{LeafType, is_text, order_of}
use Rattle.schema.specs.Values.{ValueTree, null, boolean, integer, bytes, group, list, ValueTrees, no_values, value, each}
use Rattle.schema.specs.Shape.{Field, leaf, fields, Fields, no_fields, field, name_of}
use Rattle.schema.specs.Fits.{are_bytes, fits_kind, is_valid_text, fits_leaf, fits_as, is_group, fits, fits_each}
use Rattle.schema.specs.Law.{names, AllDiffer, IsValid, AreValid}
use Rattle.leaftext.specs.declared.leaf_form.Form.{Form}
use Rattle.leaftext.specs.declared.leaf_form.Form.TheVariants.{Date, Time, Timestamp, Decimal, ShortestBytes, FixedBytes}
use Rattle.leaftext.specs.Forms.{form_if, form_text, form_read, form_bytes_text, form_bytes_read}
use Rattle.leaftext.proofs.FormTexts.{forms_read_back}
use Rattle.leaftext.proofs.BytesTexts.{bytes_read_back}
use Rattle.rowtext.specs.Json.{leaf_json, text_or, hex_name, hex_json, leaf_shown, leaf_json_as, items_json, json_as, object_json, field_json_as, members_json_as}
use Rattle.rowtext.specs.Reading.{bytes_of_digits, hex_read, scalar_read, scalar_by, leaf_read_by, leaf_read_as, value_before, items_read, read_as, object_read, without, field_read_as, members_read_as}
use Rattle.rowtext.specs.Law.{RowsReadBack, RowsReadBackAs}
use Rattle.rowtext.proofs.Heights.{at_most_32}
use Rattle.rowtext.proofs.JsonTexts.{text_back}
use Rattle.rowtext.proofs.Numbers.{number_back, within}
use Rattle.rowtext.proofs.RowJson.{row_readable_as, members_flat}
use Rattle.rowtext.proofs.HexTexts.{digits_said}

-- ---- leaves

byte_at : (s : List ℕ) → are_bytes s ≡ true → IsBytes s
byte_at [] h i = omega arith
byte_at (b ∷ s) h zero = let p = and_true (nat_lt b 256) (are_bytes s) h in (Decides-ltb b 256).0 p.0
byte_at (b ∷ s) h (suc i) = let p = and_true (nat_lt b 256) (are_bytes s) h in byte_at s p.1 i

text_or_digits : (text : Bool) (s : List ℕ) → are_bytes s ≡ true → (if text then is_valid_text (bytes s) else true) ≡ true
    → (if text then Some (if text && is_utf8 s then s else encode_lower s) else bytes_of_digits (if text && is_utf8 s then s else encode_lower s)) ≡ Some s
text_or_digits true s are h = rw h refl
text_or_digits false s are h = digits_said s (byte_at s are)

kind_bytes : (k : Kind) (s : List ℕ) → fits_kind k (bytes s) ≡ true → are_bytes s ≡ true
kind_bytes Boolean s h = absurd (true≢false (sym h))
kind_bytes Int32 s h = absurd (true≢false (sym h))
kind_bytes Int64 s h = absurd (true≢false (sym h))
kind_bytes ByteArray s h = h
kind_bytes (FixedLenByteArray n) s h = (and_true _ (are_bytes s) h).1

no_null : (k : Kind) → fits_kind k null ≡ false
no_null Boolean = refl
no_null Int32 = refl
no_null Int64 = refl
no_null ByteArray = refl
no_null (FixedLenByteArray n) = refl

no_group : (k : Kind) (vs : ValueTrees) → fits_kind k (group vs) ≡ false
no_group Boolean vs = refl
no_group Int32 vs = refl
no_group Int64 vs = refl
no_group ByteArray vs = refl
no_group (FixedLenByteArray n) vs = refl

no_list : (k : Kind) (vs : ValueTrees) → fits_kind k (list vs) ≡ false
no_list Boolean vs = refl
no_list Int32 vs = refl
no_list Int64 vs = refl
no_list ByteArray vs = refl
no_list (FixedLenByteArray n) vs = refl

-- what is shown of a value that passes is read as that value
abbrev ReadsBack : (ValueTree → Bool) → (ValueTree → Data) → (Data → Option ValueTree) → Type 0
ReadsBack p shown inside = (v : ValueTree) → p v ≡ true → inside (shown v) ≡ Some v

scalar_back : (t : LeafType) → ReadsBack (fits_leaf t) (leaf_json t) (scalar_read t)
scalar_back t null h = absurd (true≢false (sym (and_true (fits_kind t.kind null) _ h).0 ∙ no_null t.kind))
scalar_back t (boolean b) h = refl
scalar_back t (integer z) h = ap (option_map integer) (number_back t.kind (order_of t) z (and_true (fits_kind t.kind (integer z)) _ h).0)
scalar_back t (bytes s) h = let p = and_true (fits_kind t.kind (bytes s)) _ h in ap (option_map bytes) (text_or_digits (is_text t.kind t.annotation) s (kind_bytes t.kind s p.0) p.1)
scalar_back t (group vs) h = absurd (true≢false (sym (and_true (fits_kind t.kind (group vs)) _ h).0 ∙ no_group t.kind vs))
scalar_back t (list vs) h = absurd (true≢false (sym (and_true (fits_kind t.kind (list vs)) _ h).0 ∙ no_list t.kind vs))

chosen : (t : LeafType) (o : Option ValueTree) (v : ValueTree) → fits_leaf t v ≡ true → o ≡ Some v → option_and_then (λ (x : ValueTree). if fits_leaf t x then Some x else None) o ≡ Some v
chosen t o v h e = ap (option_and_then (λ (x : ValueTree). if fits_leaf t x then Some x else None)) e ∙ ap (λ (b : Bool). if b then Some v else None) h

-- a number of a leaf whose values have texts
formed_back : (t : LeafType) (form : Form) (z : ℤ) (o : Option (List ℕ)) → form_text form z ≡ o → fits_leaf t (integer z) ≡ true → scalar_by (Some form) t (text_or o (leaf_json t (integer z))) ≡ Some (integer z)
formed_back t form z (Some text) e h =
    ap (λ x. option_or (option_map integer x) (option_map bytes (form_bytes_read form text))) (forms_read_back form z text (within t.kind z (and_true (fits_kind t.kind (integer z)) _ h).0) e)
formed_back t form z None e h = scalar_back t (integer z) h

-- a text of bytes is that of no number
no_number : (form : Form) (s text : List ℕ) → form_bytes_text form s ≡ Some text → form_read form text ≡ None
no_number Date s text e = absurd (cc)
no_number (Time unit) s text e = absurd (cc)
no_number (Timestamp unit) s text e = absurd (cc)
no_number (Decimal scale) s text e = absurd (cc)
no_number (ShortestBytes scale) s text e = refl
no_number (FixedBytes scale n) s text e = refl

-- the digits in an object are those of the bytes
hex_back : (s : List ℕ) → are_bytes s ≡ true → hex_read (member hex_name (json.string (encode_lower s)) no_members) ≡ Some s
hex_back s are = digits_said s (byte_at s are)

-- bytes of a leaf whose values have texts
bytes_back : (t : LeafType) (form : Form) (s : List ℕ) (o : Option (List ℕ)) → form_bytes_text form s ≡ o → are_bytes s ≡ true → scalar_by (Some form) t (text_or o (hex_json s)) ≡ Some (bytes s)
bytes_back t form s (Some text) e are =
    ap (λ x. option_or (option_map integer x) (option_map bytes (form_bytes_read form text))) (no_number form s text e) ∙ ap (option_map bytes) (bytes_read_back form s text are e)
bytes_back t form s None e are = ap (option_map bytes) (hex_back s are)

back_by : (o : Option Form) (t : LeafType) → ReadsBack (fits_leaf t) (leaf_shown o t) (scalar_by o t)
back_by None t v h = scalar_back t v h
back_by (Some form) t null h = absurd (true≢false (sym (and_true (fits_kind t.kind null) _ h).0 ∙ no_null t.kind))
back_by (Some form) t (boolean b) h = refl
back_by (Some form) t (integer z) h = formed_back t form z (form_text form z) refl h
back_by (Some form) t (bytes s) h = bytes_back t form s (form_bytes_text form s) refl (kind_bytes t.kind s (and_true (fits_kind t.kind (bytes s)) _ h).0)
back_by (Some form) t (group vs) h = absurd (true≢false (sym (and_true (fits_kind t.kind (group vs)) _ h).0 ∙ no_group t.kind vs))
back_by (Some form) t (list vs) h = absurd (true≢false (sym (and_true (fits_kind t.kind (list vs)) _ h).0 ∙ no_list t.kind vs))

null_by : (o : Option Form) (t : LeafType) → leaf_read_by o t json.null ≡ None
null_by None t = refl
null_by (Some form) t = refl

module _ (texts : Bool) where
  pub leaf_back : (t : LeafType) → ReadsBack (fits_leaf t) (leaf_json_as texts t) (leaf_read_as texts t)
  leaf_back t v h = chosen t (scalar_by (form_if texts t) t (leaf_json_as texts t v)) v h (back_by (form_if texts t) t v h)

  -- ---- repetitions

  items_back : (p : ValueTree → Bool) (shown : ValueTree → Data) (inside : Data → Option ValueTree) → ReadsBack p shown inside → (vs : ValueTrees) → each p vs ≡ true → items_read inside (items_json shown vs) ≡ Some vs
  items_back p shown inside one no_values h = refl
  items_back p shown inside one (value v vs) h =
      let b = and_true (p v) (each p vs) h in
      ap₂ value_before (one v b.0) (items_back p shown inside one vs b.1)

  none_is : {A B : Type 0} (o : Option A) (x : A) → o ≡ None → o ≡ Some x → B
  none_is None x e f = cc
  none_is (Some y) x e f = cc

  -- what is there is no null
  there_back : (inside : Data → Option ValueTree) (v : ValueTree) (d : Data) → inside json.null ≡ None → inside d ≡ Some v → read_as Optional inside (Some d) ≡ Some v
  there_back inside v json.null none is = none_is (inside json.null) v none is
  there_back inside v (json.boolean b) none is = is
  there_back inside v (json.number n) none is = is
  there_back inside v (json.string s) none is = is
  there_back inside v (json.array ds) none is = is
  there_back inside v (json.object ms) none is = is

  as_back : (r : Repetition) (p : ValueTree → Bool) (shown : ValueTree → Data) (inside : Data → Option ValueTree) → ReadsBack p shown inside → inside json.null ≡ None → (v : ValueTree) → fits_as r p v ≡ true → read_as r inside (Some (json_as r shown v)) ≡ Some v
  as_back Required p shown inside one none v h = one v h
  as_back Optional p shown inside one none null h = refl
  as_back Optional p shown inside one none (boolean b) h = there_back inside (boolean b) (shown (boolean b)) none (one (boolean b) h)
  as_back Optional p shown inside one none (integer z) h = there_back inside (integer z) (shown (integer z)) none (one (integer z) h)
  as_back Optional p shown inside one none (bytes s) h = there_back inside (bytes s) (shown (bytes s)) none (one (bytes s) h)
  as_back Optional p shown inside one none (group vs) h = there_back inside (group vs) (shown (group vs)) none (one (group vs) h)
  as_back Optional p shown inside one none (list vs) h = there_back inside (list vs) (shown (list vs)) none (one (list vs) h)
  as_back Repeated p shown inside one none null h = absurd (true≢false (sym h))
  as_back Repeated p shown inside one none (boolean b) h = absurd (true≢false (sym h))
  as_back Repeated p shown inside one none (integer z) h = absurd (true≢false (sym h))
  as_back Repeated p shown inside one none (bytes s) h = absurd (true≢false (sym h))
  as_back Repeated p shown inside one none (group vs) h = absurd (true≢false (sym h))
  as_back Repeated p shown inside one none (list vs) h = ap (option_map list) (items_back p shown inside one vs h)

  group_back : (p : ValueTrees → Bool) (shown : ValueTrees → Members) (all : Members → Option ValueTrees) → ((vs : ValueTrees) → p vs ≡ true → all (shown vs) ≡ Some vs) → ReadsBack (is_group p) (object_json shown) (object_read all)
  group_back p shown all one null h = absurd (true≢false (sym h))
  group_back p shown all one (boolean b) h = absurd (true≢false (sym h))
  group_back p shown all one (integer z) h = absurd (true≢false (sym h))
  group_back p shown all one (bytes s) h = absurd (true≢false (sym h))
  group_back p shown all one (group vs) h = ap (option_map group) (one vs h)
  group_back p shown all one (list vs) h = absurd (true≢false (sym h))

  -- ---- members of other names

  abbrev Lacks : List ℕ → Members → Type 0
  Lacks k no_members = Unit {0}
  Lacks k (member l d ms) = (k ≢ l) × Lacks k ms

  lacks_at : (o : Ordering) (k : List ℕ) (a b c : Members) → Lacks k a → Lacks k b → Lacks k c → Lacks k (match_ordering o a b c)
  lacks_at Less k a b c x y z = x
  lacks_at Equal k a b c x y z = y
  lacks_at Greater k a b c x y z = z

  lacks_put : (k l : List ℕ) (d : Data) (ms : Members) → k ≢ l → Lacks k ms → Lacks k (put l d ms)
  lacks_put k l d no_members other h = (other, tt)
  lacks_put k l d (member j e ms) other h = lacks_at (slice_cmp nat_cmp l j) k _ _ _ (other, h) h (h.0, lacks_put k l d ms other h.1)

  lacks_members : (k : List ℕ) (fs : Fields) (vs : ValueTrees) → AllByRecursion (λ m. k ≡ m → ⊥) (names fs) → Lacks k (members_json_as texts fs vs)
  lacks_members k no_fields vs h = tt
  lacks_members k (field f fs) no_values h = tt
  lacks_members k (field f fs) (value v vs) h = lacks_put k (name_of f) (field_json_as texts f v) (members_json_as texts fs vs) h.0 (lacks_members k fs vs h.1)

  without-put_at : (o : Ordering) (k l : List ℕ) (d e : Data) (ms : Members) → slice_cmp nat_cmp k l ≡ o → k ≢ l → without k (put k d ms) ≡ ms
      → without k (match_ordering o (member k d (member l e ms)) (member l d ms) (member l e (put k d ms))) ≡ member l e ms
  without-put_at Less k l d e ms is other later = rw (tied_itself nat_list_cmp_total k) refl
  without-put_at Equal k l d e ms is other later = absurd (other (exact_bytes k l is))
  without-put_at Greater k l d e ms is other later = rw is (ap (member l e) later)

  without-put : (k : List ℕ) (d : Data) (ms : Members) → Lacks k ms → without k (put k d ms) ≡ ms
  without-put k d no_members h = rw (tied_itself nat_list_cmp_total k) refl
  without-put k d (member l e ms) h = without-put_at (slice_cmp nat_cmp k l) k l d e ms refl h.0 (without-put k d ms h.1)

  -- ---- rows

  mutual
    field_back : (f : Field) → IsValid f → (v : ValueTree) → fits f v ≡ true → field_read_as texts f (Some (field_json_as texts f v)) ≡ Some v
    field_back (leaf n r t) valid v h = as_back r (fits_leaf t) (leaf_json_as texts t) (leaf_read_as texts t) (leaf_back t) (null_by (form_if texts t) t) v h
    field_back (fields n r a fs) valid v h =
        as_back r (is_group (fits_each fs)) (object_json (members_json_as texts fs)) (object_read (members_read_as texts fs)) (group_back (fits_each fs) (members_json_as texts fs) (members_read_as texts fs) (members_back fs valid.0.differ valid.1)) refl v h

    members_back : (fs : Fields) → AllDiffer (names fs) → AreValid fs → (vs : ValueTrees) → fits_each fs vs ≡ true → members_read_as texts fs (members_json_as texts fs vs) ≡ Some vs
    members_back no_fields differ valid no_values h = refl
    members_back no_fields differ valid (value v vs) h = absurd (true≢false (sym h))
    members_back (field f fs) differ valid no_values h = absurd (true≢false (sym h))
    members_back (field f fs) differ valid (value v vs) h =
        let b = and_true (fits f v) (fits_each fs vs) h in
        let k = name_of f in
        let d = field_json_as texts f v in
        let ms = members_json_as texts fs vs in
        let here : field_read_as texts f (get_member k (put k d ms)) ≡ Some v = ap (field_read_as texts f) (get_member-put k d ms) ∙ field_back f valid.0 v b.0 in
        let rest : members_read_as texts fs (without k (put k d ms)) ≡ Some vs = ap (members_read_as texts fs) (without-put k d ms (lacks_members k fs vs differ.0)) ∙ members_back fs differ.1 valid.1 vs b.1 in
        ap₂ value_before here rest

pub rows_read_back_as : RowsReadBackAs
rows_read_back_as texts fs row valid within h =
    let tall = at_most_32 fs valid within in
    let flat = members_flat texts fs row in
    let d = json.object (members_json_as texts fs row) in
    let nests : depth d ≤ 127 = omega (arith, tall, flat) in
    (d, text_back d (row_readable_as texts fs row h) nests, members_back texts fs valid.0.differ valid.1 row h)

pub rows_read_back : RowsReadBack
rows_read_back = rows_read_back_as false
