-- The values of fields that were read as they are shown, and their pieces.
use Rattle.std.proofs.Common.{◌≡◌, ℕ, zero, suc, ◌+◌, ◌<◌, Bool, true, false, true≢false, ◌==◌, List, [], ◌∷◌, ◌++◌, Option, None, String, Vec, Global, refl, sym, ap, ap₂, subst, ◌∙◌, arith, append_assoc, append-nil}
use Rattle.std.specs.List.{concat}
use Rattle.std.proofs.lemmas.Bool.{ne_eqb, and_parts as and_true, and_from as both}
use Rattle.serde_json.specs.Data.{Data}
use Rattle.serde_json.specs.Data as json
use Rattle.serde_json.specs.Written.{compact_text, comma_if, items_text}
use Rattle.schema.specs.declared.value.Kind.{Kind}
use Rattle.schema.specs.declared.value.Kind.TheVariants.{Boolean, Int32, Int64, ByteArray, FixedLenByteArray}
use Rattle.schema.specs.declared.value.Repetition.{Repetition}
use Rattle.schema.specs.declared.value.Repetition.TheVariants.{Required, Optional, Repeated}
use Rattle.schema.specs.declared.annotation.LeafType.{LeafType as CodeLeafType}
use Rattle.schema.specs.declared.annotation.GroupAnnotation.{GroupAnnotation}
use Rattle.schema.specs.declared.field.Field.{Field as CodeField, Leaf, Group}
use Rattle.schema.specs.Values.{ValueTree, null, boolean, integer, bytes, group, list, ValueTrees, no_values, value, each}
use Rattle.schema.specs.Shape.{Field, leaf, fields, Fields, no_fields, field, repetition_of, count}
use Rattle.schema.specs.Views.{leaf_type_view, field_view, field_views}
use Rattle.schema.specs.Fits.{fits_kind, fits_leaf, fits_as, is_group, fits, fits_each, fits_inside}
use Rattle.schema.proofs.Seen.{view-Leaf, view-Group}
use Rattle.rowtext.specs.Json.{leaf_json, items_json, json_as, object_json, inside_json, field_json, members_json, row_text}
use Rattle.rowtext.specs.declared.cursor.Cursor.{Cursor}
use Rattle.rowtext.specs.declared.pieces.Piece.{Piece}
use Rattle.rowtext.specs.inner.Lines.{rest_of, Takes, IsShown, with_comma, members_shown, open_text}
use Rattle.rowtext.specs.inner.Pieces.{token_of, tokens_of, Grows, IsRead, AreRead}
use Rattle.rowtext.specs.inner.Slots.{slot_of, key_in, indices_of, is_in_order, order_of}
use Rattle.rowtext.specs.inner.Kept.{in_order as put_in_order}
use Rattle.rowtext.specs.inner.Levels.{braced}
use Rattle.assemble.specs.Sinks.{single, group_begins, group_ends, list_begins, list_ends, tokens, tokens_each}
use Rattle.assemble.specs.inner.Building.{snoc}
use Rattle.assemble.proofs.Each.{join, join_snoc, join_none}
use Rattle.assemble.proofs.Showing.{tokens_snoc}
use Rattle.rowtext.proofs.LinePieces.{grows_then, one_more, between}
use Rattle.rowtext.proofs.RowOrder.{pieces, ordered_by, object_braced}

-- ---- one value

pub leaf_shown : (f : CodeField) (n : String Global) (r : Repetition) (t : CodeLeafType) (old new : Cursor) (before after : List Piece) → f ≡ Leaf n r t
    → IsRead (fits_leaf (leaf_type_view t)) (leaf_json (leaf_type_view t)) old new before after → IsRead (fits_inside (field_view f)) (inside_json (field_view f)) old new before after
leaf_shown f n r t old new before after is h = subst (λ x. IsRead (fits_inside x) (inside_json x) old new before after) (sym (ap field_view is ∙ view-Leaf n r t)) h

pub group_shown : (f : CodeField) (n : String Global) (r : Repetition) (a : Option GroupAnnotation) (fs : Vec CodeField Global) (xs : List CodeField) (old new : Cursor) (ks bs cs ds : List Piece) (p q : Piece) → f ≡ Group n r a fs → xs ≡ fs.items
    → token_of p ≡ group_begins → token_of q ≡ group_ends → bs ≡ ks ++ p ∷ [] → AreRead (fits_each (field_views xs)) (row_text (field_views xs)) (rest_of old) (rest_of new) bs cs → ds ≡ cs ++ q ∷ []
    → IsRead (fits_inside (field_view f)) (inside_json (field_view f)) old new ks ds
group_shown f n r a fs xs old new ks bs cs ds p q is same begins ends first h last =
    let there = sym (ap field_view is ∙ view-Group n r a fs) in
    let vs = h.0 in
    let grown = between ks bs cs ds p q (tokens_each vs) first h.1.1.1 last in
    let here : IsRead (is_group (fits_each (field_views fs.items))) (object_json (members_json (field_views fs.items))) old new ks ds =
    (group vs, ((ap (λ ys. fits_each (field_views ys) vs) (sym same) ∙ h.1.0, h.1.1.0 ∙ ap (λ ys. row_text (field_views ys) vs ++ rest_of new) same), grown ∙ ap₂ (λ x y. tokens_of ks ++ (x ∷ (tokens_each vs ++ y ∷ []))) begins ends)) in
    subst (λ x. IsRead (fits_inside x) (inside_json x) old new ks ds) there here

no_null : (k : Kind) → fits_kind k null ≡ true → ⊥
no_null Boolean h = true≢false (sym h)
no_null Int32 h = true≢false (sym h)
no_null Int64 h = true≢false (sym h)
no_null ByteArray h = true≢false (sym h)
no_null (FixedLenByteArray n) h = true≢false (sym h)

required_shown : (f : Field) (v : ValueTree) (old new : Cursor) → repetition_of f ≡ Required → IsShown (fits_inside f) (inside_json f) old v new → IsShown (fits f) (field_json f) old v new
required_shown (leaf n r t) v old new is h = subst (λ x. IsShown (fits_as x (fits_leaf t)) (json_as x (leaf_json t)) old v new) (sym is) h
required_shown (fields n r a fs) v old new is h = subst (λ x. IsShown (fits_as x (is_group (fits_each fs))) (json_as x (object_json (members_json fs))) old v new) (sym is) h

one_shown : (passes : ValueTree → Bool) (shown : ValueTree → Data) (v : ValueTree) (old new : Cursor) → (passes null ≡ true → ⊥) → IsShown passes shown old v new → IsShown (fits_as Optional passes) (json_as Optional shown) old v new
one_shown passes shown null old new none h = absurd (none h.0)
one_shown passes shown (boolean b) old new none h = h
one_shown passes shown (integer z) old new none h = h
one_shown passes shown (bytes s) old new none h = h
one_shown passes shown (group vs) old new none h = h
one_shown passes shown (list vs) old new none h = h

optional_shown : (f : Field) (v : ValueTree) (old new : Cursor) → repetition_of f ≡ Optional → IsShown (fits_inside f) (inside_json f) old v new → IsShown (fits f) (field_json f) old v new
optional_shown (leaf n r t) v old new is h =
    subst (λ x. IsShown (fits_as x (fits_leaf t)) (json_as x (leaf_json t)) old v new) (sym is) (one_shown (fits_leaf t) (leaf_json t) v old new (λ e. no_null t.kind (and_true (fits_kind t.kind null) _ e).0) h)
optional_shown (fields n r a fs) v old new is h =
    subst (λ x. IsShown (fits_as x (is_group (fits_each fs))) (json_as x (object_json (members_json fs))) old v new) (sym is) (one_shown (is_group (fits_each fs)) (object_json (members_json fs)) v old new (λ e. true≢false (sym e)) h)

null_shown : (f : Field) (old new : Cursor) → repetition_of f ≡ Optional → Takes old new (compact_text json.null) → IsShown (fits f) (field_json f) old null new
null_shown (leaf n r t) old new is h = subst (λ x. IsShown (fits_as x (fits_leaf t)) (json_as x (leaf_json t)) old null new) (sym is) (refl, h)
null_shown (fields n r a fs) old new is h = subst (λ x. IsShown (fits_as x (is_group (fits_each fs))) (json_as x (object_json (members_json fs))) old null new) (sym is) (refl, h)

list_shown : (f : Field) (vs : ValueTrees) (old mid new : Cursor) → repetition_of f ≡ Repeated → Takes old mid (91 ∷ []) → each (fits_inside f) vs ≡ true → Takes mid new (items_text false (items_json (inside_json f) vs))
    → IsShown (fits f) (field_json f) old (list vs) new
list_shown (leaf n r t) vs old mid new is opened fit h =
    subst (λ x. IsShown (fits_as x (fits_leaf t)) (json_as x (leaf_json t)) old (list vs) new) (sym is) (fit, opened ∙ ap (λ s. 91 ∷ s) h)
list_shown (fields n r a fs) vs old mid new is opened fit h =
    subst (λ x. IsShown (fits_as x (is_group (fits_each fs))) (json_as x (object_json (members_json fs))) old (list vs) new) (sym is) (fit, opened ∙ ap (λ s. 91 ∷ s) h)

-- a value with its pieces, where the field must, may, or may often be there
pub required_read : (f : Field) (old new : Cursor) (ks bs : List Piece) → repetition_of f ≡ Required → IsRead (fits_inside f) (inside_json f) old new ks bs → IsRead (fits f) (field_json f) old new ks bs
required_read f old new ks bs is h = (h.0, (required_shown f h.0 old new is h.1.0, h.1.1))

pub optional_read : (f : Field) (old mid new : Cursor) (ks bs : List Piece) → repetition_of f ≡ Optional → rest_of mid ≡ rest_of old → IsRead (fits_inside f) (inside_json f) mid new ks bs → IsRead (fits f) (field_json f) old new ks bs
optional_read f old mid new ks bs is same h = (h.0, (optional_shown f h.0 old new is (h.1.0.0, sym same ∙ h.1.0.1), h.1.1))

pub null_read : (f : Field) (old new : Cursor) (ks bs : List Piece) (p : Piece) → repetition_of f ≡ Optional → Takes old new (compact_text json.null) → token_of p ≡ single null → bs ≡ ks ++ p ∷ [] → IsRead (fits f) (field_json f) old new ks bs
null_read f old new ks bs p is h said one = (null, (null_shown f old new is h, one_more ks bs p one ∙ ap (λ x. tokens_of ks ++ x ∷ []) said))

pub list_read : (f : Field) (old mid new : Cursor) (ks bs cs ds : List Piece) (p q : Piece) → repetition_of f ≡ Repeated → Takes old mid (91 ∷ []) → token_of p ≡ list_begins → token_of q ≡ list_ends → bs ≡ ks ++ p ∷ []
    → AreRead (each (fits_inside f)) (λ vs. items_text false (items_json (inside_json f) vs)) (rest_of mid) (rest_of new) bs cs → ds ≡ cs ++ q ∷ [] → IsRead (fits f) (field_json f) old new ks ds
list_read f old mid new ks bs cs ds p q is opened begins ends first h last =
    let vs = h.0 in
    (list vs, (list_shown f vs old mid new is opened h.1.0 h.1.1.0, between ks bs cs ds p q (tokens_each vs) first h.1.1.1 last ∙ ap₂ (λ x y. tokens_of ks ++ (x ∷ (tokens_each vs ++ y ∷ []))) begins ends))

-- ---- items

-- what was read, and what all items are then shown as
abbrev pub ItemsGo : (ValueTree → Bool) → (ValueTree → Data) → List ℕ → List ℕ → Bool → List Piece → List Piece → Type 0
ItemsGo passes shown first rest later ks bs =
    (before : ValueTrees) × (Grows ks bs (tokens_each before) × ((done : List ℕ) × ((first ≡ done ++ rest)
    × ((vs : ValueTrees) → each passes vs ≡ true → (each passes (join before vs) ≡ true) × (items_text false (items_json shown (join before vs)) ≡ done ++ items_text later (items_json shown vs))))))

pub items_begin : (passes : ValueTree → Bool) (shown : ValueTree → Data) (first : List ℕ) (ks : List Piece) → ItemsGo passes shown first first false ks ks
items_begin passes shown first ks = (no_values, (sym (append-nil (tokens_of ks)), ([], (refl, λ vs h. (h, refl)))))

pub items_turn : (passes : ValueTree → Bool) (shown : ValueTree → Data) (first rest : List ℕ) (mid new : Cursor) (later : Bool) (ks bs cs : List Piece) → ItemsGo passes shown first rest later ks bs → rest ≡ comma_if later ++ rest_of mid
    → IsRead passes shown mid new bs cs → ItemsGo passes shown first (rest_of new) true ks cs
items_turn passes shown first rest mid new later ks bs cs so comma read =
    let c = comma_if later in
    let before = so.0 in
    let done = so.1.1.0 in
    let go = so.1.1.1 in
    let v = read.0 in
    let t = compact_text (shown v) in
    let p = c ++ t in (
      snoc before v,
      (
        grows_then ks bs cs (tokens_each before) (tokens v) so.1.0 read.1.1 ∙ ap (λ x. tokens_of ks ++ x) (sym (tokens_snoc before v)),
        (
          done ++ p,
          (
            go.0 ∙ ap (λ s. done ++ s) (comma ∙ ap (λ s. c ++ s) read.1.0.1 ∙ sym (append_assoc c t (rest_of new))) ∙ sym (append_assoc done p (rest_of new)),
            λ vs h.
                let one = go.1 (value v vs) (both (passes v) (each passes vs) read.1.0.0 h) in
                let joins = join_snoc before v vs in
                let more = items_text true (items_json shown vs) in (
                  ap (each passes) joins ∙ one.0,
                  ap (λ x. items_text false (items_json shown x)) joins ∙ one.1 ∙ ap (λ s. done ++ s) (sym (append_assoc c t more)) ∙ sym (append_assoc done p more),
                ),
          ),
        ),
      ),
    )

pub items_end : (passes : ValueTree → Bool) (shown : ValueTree → Data) (first rest new : List ℕ) (later : Bool) (ks bs : List Piece) → ItemsGo passes shown first rest later ks bs → rest ≡ 93 ∷ new
    → AreRead (each passes) (λ vs. items_text false (items_json shown vs)) first new ks bs
items_end passes shown first rest new later ks bs so closed =
    let before = so.0 in
    let done = so.1.1.0 in
    let go = so.1.1.1 in
    let all = go.1 no_values refl in
    let whole = join_none before in (
      before,
      (
        ap (each passes) (sym whole) ∙ all.0,
        (
          go.0 ∙ ap (λ s. done ++ s) closed ∙ sym (append_assoc done (93 ∷ []) new) ∙ ap (λ s. s ++ new) (sym all.1 ∙ ap (λ x. items_text false (items_json shown x)) whole),
          so.1.0,
        ),
      ),
    )

-- ---- members in the order of the fields

abbrev pub MembersGo : Fields → List ℕ → List CodeField → ℕ → List ℕ → List Piece → List Piece → Type 0
MembersGo fs first left i rest ks bs =
    (before : ValueTrees) × (Grows ks bs (tokens_each before) × ((done : List ℕ) × ((44 ∷ first ≡ done ++ with_comma (i == 0) rest)
    × ((vs : ValueTrees) → fits_each (field_views left) vs ≡ true → (fits_each fs (join before vs) ≡ true) × (members_shown fs (join before vs) ≡ done ++ members_shown (field_views left) vs)))))

pub members_begin : (fs : List CodeField) (first : List ℕ) (ks : List Piece) → MembersGo (field_views fs) first fs 0 first ks ks
members_begin fs first ks = (no_values, (sym (append-nil (tokens_of ks)), ([], (refl, λ vs h. (h, refl)))))

no_brace : (i : ℕ) (s : List ℕ) → 0 < i → with_comma (i == 0) s ≡ s
no_brace zero s some = absurd (omega (arith, some))
no_brace (suc i) s some = ap (λ b. with_comma b s) (ne_eqb (suc i) 0 (λ (e : suc i ≡ 0). omega (arith, e)))

pub members_turn : (fs : Fields) (first : List ℕ) (left later : List CodeField) (f : CodeField) (i : ℕ) (rest key : List ℕ) (mid new : Cursor) (ks bs cs : List Piece) → MembersGo fs first left i rest ks bs → left ≡ f ∷ later
    → key ≡ key_in (slot_of (field_view f)) → with_comma (i == 0) rest ≡ key ++ rest_of mid → IsRead (fits (field_view f)) (field_json (field_view f)) mid new bs cs → MembersGo fs first later (i + 1) (rest_of new) ks cs
members_turn fs first left later f i rest key mid new ks bs cs so split named there read =
    let before = so.0 in
    let done = so.1.1.0 in
    let go = so.1.1.1 in
    let v = read.0 in
    let k = key_in (slot_of (field_view f)) in
    let t = compact_text (field_json (field_view f) v) in
    let p = k ++ t in
    let begun : with_comma (i == 0) rest ≡ p ++ rest_of new = there ∙ ap₂ (λ a b. a ++ b) named read.1.0.1 ∙ sym (append_assoc k t (rest_of new)) in (
      snoc before v,
      (
        grows_then ks bs cs (tokens_each before) (tokens v) so.1.0 read.1.1 ∙ ap (λ x. tokens_of ks ++ x) (sym (tokens_snoc before v)),
        (
          done ++ p,
          (
            go.0 ∙ ap (λ s. done ++ s) begun ∙ sym (append_assoc done p (rest_of new)) ∙ ap (λ s. (done ++ p) ++ s) (sym (no_brace (i + 1) (rest_of new) (omega arith))),
            λ vs h.
                let here : fits_each (field_views left) (value v vs) ≡ true = ap (λ xs. fits_each (field_views xs) (value v vs)) split ∙ both (fits (field_view f) v) (fits_each (field_views later) vs) read.1.0.0 h in
                let one = go.1 (value v vs) here in
                let joins = join_snoc before v vs in
                let more = members_shown (field_views later) vs in (
                  ap (fits_each fs) joins ∙ one.0,
                  ap (members_shown fs) joins ∙ one.1 ∙ ap (λ xs. done ++ members_shown (field_views xs) (value v vs)) split ∙ sym (append_assoc done p more),
                ),
          ),
        ),
      ),
    )

pub members_end : (fs : Fields) (first : List ℕ) (left : List CodeField) (i : ℕ) (rest : List ℕ) (ks bs : List Piece) → MembersGo fs first left i rest ks bs → left ≡ [] → 0 < i
    → AreRead (fits_each fs) (members_shown fs) (44 ∷ first) rest ks bs
members_end fs first left i rest ks bs so none some =
    let before = so.0 in
    let done = so.1.1.0 in
    let go = so.1.1.1 in
    let all = go.1 no_values (ap (λ xs. fits_each (field_views xs) no_values) none) in
    let whole = join_none before in
    let shown : members_shown fs before ≡ done ++ [] = ap (members_shown fs) (sym whole) ∙ all.1 ∙ ap (λ xs. done ++ members_shown (field_views xs) no_values) none in (
      before,
      (
        ap (fits_each fs) (sym whole) ∙ all.0,
        (
          go.0 ∙ ap (λ s. done ++ s) (no_brace i rest some) ∙ sym (append_assoc done [] rest) ∙ ap (λ s. s ++ rest) (sym shown),
          so.1.0,
        ),
      ),
    )

-- ---- objects

as_pieces : (fs : Fields) (vs : ValueTrees) → members_shown fs vs ≡ concat (pieces fs vs)
as_pieces no_fields no_values = refl
as_pieces no_fields (value v vs) = refl
as_pieces (field f fs) no_values = refl
as_pieces (field f fs) (value v vs) = ap (λ s. (key_in (slot_of f) ++ compact_text (field_json f v)) ++ s) (as_pieces fs vs)

-- a brace in place of the first comma
braced_instead : (o mid new : List ℕ) → 44 ∷ mid ≡ o ++ 125 ∷ new → 123 ∷ mid ≡ (braced o ++ 125 ∷ []) ++ new
braced_instead [] mid new h = let no : ◌≡◌ {A = ℕ} 44 125 = cc in absurd (omega (arith, no))
braced_instead (x ∷ o) mid new h = let same : mid ≡ o ++ 125 ∷ new = cc in ap (λ s. 123 ∷ s) (same ∙ sym (append_assoc o (125 ∷ []) new))

-- fields in the order of their names
pub in_order : (fs : Fields) (vs : ValueTrees) → order_of fs ≡ None → fits_each fs vs ≡ true → members_shown fs vs ≡ open_text (members_json fs vs)
in_order fs vs none fit = as_pieces fs vs ∙ sym (ap (put_in_order (pieces fs vs)) none) ∙ ordered_by false fs vs fit (is_in_order (indices_of fs) (count fs)) refl

pub order_read : (fs : Fields) (old new : List ℕ) (ks bs : List Piece) → order_of fs ≡ None → AreRead (fits_each fs) (members_shown fs) old new ks bs → AreRead (fits_each fs) (λ vs. open_text (members_json fs vs)) old new ks bs
order_read fs old new ks bs none h = (h.0, (h.1.0, (h.1.1.0 ∙ ap (λ s. s ++ new) (in_order fs h.0 none h.1.0), h.1.1.1)))

pub object_read : (fs : Fields) (old mid end new : List ℕ) (ks bs : List Piece) → old ≡ 123 ∷ mid → AreRead (fits_each fs) (λ vs. open_text (members_json fs vs)) (44 ∷ mid) end ks bs → end ≡ 125 ∷ new → AreRead (fits_each fs) (row_text fs) old new ks bs
object_read fs old mid end new ks bs opened h closed =
    let ms = members_json fs h.0 in
    let o = open_text ms in (
      h.0,
      (h.1.0, (opened ∙ braced_instead o mid new (h.1.1.0 ∙ ap (λ s. o ++ s) closed) ∙ ap (λ s. s ++ new) (object_braced ms), h.1.1.1)),
    )
