-- The text of kept values that fit is that of a row.
use Rattle.std.proofs.Common.{◌≡◌, ℕ, Bool, true, false, true≢false, Option, List, [], ◌∷◌, ◌++◌, refl, ap, ap₂, sym, ◌∙◌, append_assoc}
use Rattle.std.proofs.lemmas.Bool.{and_parts as and_true}
use Rattle.serde_json.specs.Data.{Data}
use Rattle.serde_json.specs.Data as json
use Rattle.serde_json.specs.Written.{compact_text, comma_if, items_text}
use Rattle.schema.specs.declared.value.Repetition.{Repetition}
use Rattle.schema.specs.declared.value.Repetition.TheVariants.{Required, Optional, Repeated}
use Rattle.schema.specs.declared.value.Kind.{Kind}
use Rattle.schema.specs.declared.value.Kind.TheVariants.{Boolean, Int32, Int64, ByteArray, FixedLenByteArray}
use Rattle.schema.specs.Annotations.{LeafType, is_text, order_of as leaf_order}
use Rattle.schema.specs.declared.value.Value.{Value}
use Rattle.schema.specs.Values.{ValueTree, null, boolean, integer, bytes, group, list, ValueTrees, no_values, value, each, views}
use Rattle.schema.specs.Shape.{Field, leaf, fields, Fields, no_fields, field}
use Rattle.schema.specs.Fits.{fits_kind, fits_leaf, fits_as, is_group, fits, fits_each}
use Rattle.leaftext.specs.Forms.{form_if}
use Rattle.rowtext.specs.Json.{leaf_json, leaf_json_as, items_json, json_as, object_json, field_json_as, members_json_as, row_text_as}
use Rattle.rowtext.specs.inner.Scalars.{numbers_as}
use Rattle.rowtext.specs.inner.Slots.{Slot, Slots, leaf_slot, group_slot, slot_as, slots_as, key_of, key_in, order_of}
use Rattle.rowtext.specs.inner.Kept.{kept_text, kept_items, kept_pieces, kept_object}
use Rattle.rowtext.proofs.SameNumbers.{integer_is, bytes_are, IsOther, other_shown}
use Rattle.rowtext.proofs.RowOrder.{pieces_as, object_ordered}

-- values that pass have, in a slot, the text of what is shown of them
abbrev pub IsKept : Slot → (ValueTree → Bool) → (ValueTree → Data) → Type 0
IsKept slot p shown = (v : ValueTree) → p v ≡ true → kept_text slot v ≡ compact_text (shown v)

-- ---- leaves

pub no_group : (k : Kind) (vs : ValueTrees) → fits_kind k (group vs) ≡ true → ⊥
no_group Boolean vs h = true≢false (sym h)
no_group Int32 vs h = true≢false (sym h)
no_group Int64 vs h = true≢false (sym h)
no_group ByteArray vs h = true≢false (sym h)
no_group (FixedLenByteArray n) vs h = true≢false (sym h)

pub no_list : (k : Kind) (vs : ValueTrees) → fits_kind k (list vs) ≡ true → ⊥
no_list Boolean vs h = true≢false (sym h)
no_list Int32 vs h = true≢false (sym h)
no_list Int64 vs h = true≢false (sym h)
no_list ByteArray vs h = true≢false (sym h)
no_list (FixedLenByteArray n) vs h = true≢false (sym h)

module _ (texts : Bool) where
  abbrev pub leaf_of : LeafType → List ℕ → Slot
  leaf_of t k = leaf_slot k (numbers_as (form_if texts t) t.kind (leaf_order t)) (is_text t.kind t.annotation)

  other_kept : (t : LeafType) (v : ValueTree) → IsOther v → compact_text (leaf_json t v) ≡ compact_text (leaf_json_as texts t v)
  other_kept t v h = ap compact_text (sym (other_shown (form_if texts t) t v h))

  pub leaf_kept : (t : LeafType) (k : List ℕ) → IsKept (leaf_of t k) (fits_leaf t) (leaf_json_as texts t)
  leaf_kept t k null h = other_kept t null tt
  leaf_kept t k (boolean b) h = other_kept t (boolean b) tt
  leaf_kept t k (integer z) h = integer_is texts t z
  leaf_kept t k (bytes x) h = bytes_are texts t x (and_true (fits_kind t.kind (bytes x)) _ h).1
  leaf_kept t k (group vs) h = absurd (no_group t.kind vs (and_true (fits_kind t.kind (group vs)) _ h).0)
  leaf_kept t k (list vs) h = absurd (no_list t.kind vs (and_true (fits_kind t.kind (list vs)) _ h).0)

  -- ---- lists

  module _ (slot : Slot) (p : ValueTree → Bool) (shown : ValueTree → Data) (one : IsKept slot p shown) where
    items_kept : (later : Bool) (vs : ValueTrees) → each p vs ≡ true → kept_items later slot vs ++ 93 ∷ [] ≡ items_text later (items_json shown vs)
    items_kept later no_values h = refl
    items_kept later (value v vs) h =
        let q = and_true (p v) (each p vs) h in
        let c = comma_if later in
        append_assoc c (kept_text slot v ++ kept_items true slot vs) (93 ∷ [])
        ∙ ap (λ (s : List ℕ). c ++ s) (append_assoc (kept_text slot v) (kept_items true slot vs) (93 ∷ []) ∙ ap₂ (λ (a b : List ℕ). a ++ b) (one v q.0) (items_kept true vs q.1))

    as_kept : kept_text slot null ≡ compact_text json.null → (r : Repetition) → IsKept slot (fits_as r p) (json_as r shown)
    as_kept none Required v h = one v h
    as_kept none Optional null h = none
    as_kept none Optional (boolean b) h = one (boolean b) h
    as_kept none Optional (integer z) h = one (integer z) h
    as_kept none Optional (bytes x) h = one (bytes x) h
    as_kept none Optional (group vs) h = one (group vs) h
    as_kept none Optional (list vs) h = one (list vs) h
    as_kept none Repeated null h = absurd (true≢false (sym h))
    as_kept none Repeated (boolean b) h = absurd (true≢false (sym h))
    as_kept none Repeated (integer z) h = absurd (true≢false (sym h))
    as_kept none Repeated (bytes x) h = absurd (true≢false (sym h))
    as_kept none Repeated (group vs) h = absurd (true≢false (sym h))
    as_kept none Repeated (list vs) h = ap (λ (s : List ℕ). 91 ∷ s) (items_kept false vs h)

  -- ---- groups and rows

  abbrev pub group_of : Fields → List ℕ → Slot
  group_of fs k = group_slot k (slots_as texts fs) (order_of fs)

  abbrev ArePieces : Fields → Type 0
  ArePieces fs = (vs : ValueTrees) → fits_each fs vs ≡ true → kept_pieces (slots_as texts fs) vs ≡ pieces_as texts fs vs

  object_kept : (fs : Fields) → ArePieces fs → (vs : ValueTrees) → fits_each fs vs ≡ true → kept_object (kept_pieces (slots_as texts fs) vs) (order_of fs) ≡ compact_text (json.object (members_json_as texts fs vs))
  object_kept fs all vs h = ap (λ ps. kept_object ps (order_of fs)) (all vs h) ∙ object_ordered texts fs vs h

  group_kept : (fs : Fields) (k : List ℕ) → ArePieces fs → IsKept (group_of fs k) (is_group (fits_each fs)) (object_json (members_json_as texts fs))
  group_kept fs k all null h = absurd (true≢false (sym h))
  group_kept fs k all (boolean b) h = absurd (true≢false (sym h))
  group_kept fs k all (integer z) h = absurd (true≢false (sym h))
  group_kept fs k all (bytes x) h = absurd (true≢false (sym h))
  group_kept fs k all (list vs) h = absurd (true≢false (sym h))
  group_kept fs k all (group vs) h = object_kept fs all vs h

  mutual
    field_kept : (f : Field) → IsKept (slot_as texts f) (fits f) (field_json_as texts f)
    field_kept (leaf n r t) v h = as_kept (leaf_of t (key_of n)) (fits_leaf t) (leaf_json_as texts t) (leaf_kept t (key_of n)) refl r v h
    field_kept (fields n r a fs) v h = as_kept (group_of fs (key_of n)) (is_group (fits_each fs)) (object_json (members_json_as texts fs)) (group_kept fs (key_of n) (pieces_kept fs)) refl r v h

    pieces_kept : (fs : Fields) → ArePieces fs
    pieces_kept no_fields no_values h = refl
    pieces_kept no_fields (value v vs) h = absurd (true≢false (sym h))
    pieces_kept (field f fs) no_values h = absurd (true≢false (sym h))
    pieces_kept (field f fs) (value v vs) h =
        let q = and_true (fits f v) (fits_each fs vs) h in
        ap₂ (λ (s : List ℕ) ps. (key_in (slot_as texts f) ++ s) ∷ ps) (field_kept f v q.0) (pieces_kept fs vs q.1)

  -- an object of values that fit is the text of their row
  pub row_kept : (fs : Fields) (vs : ValueTrees) → fits_each fs vs ≡ true → kept_object (kept_pieces (slots_as texts fs) vs) (order_of fs) ≡ row_text_as texts fs vs
  row_kept fs vs h = object_kept fs (pieces_kept fs) vs h

  -- so is what is printed by a plan of the schema
  pub row_printed : (fs : Fields) (ss ts : Slots) (o p : Option (List ℕ)) (xs ys : List Value) (old new : List ℕ) → new ≡ old ++ kept_object (kept_pieces ss (views xs)) o → ss ≡ ts → ts ≡ slots_as texts fs → o ≡ p → p ≡ order_of fs → xs ≡ ys
      → fits_each fs (views ys) ≡ true → new ≡ old ++ row_text_as texts fs (views ys)
  row_printed fs ss ts o p xs ys old new put slots made order found values fit =
      let named = ap₂ (λ a b. kept_object (kept_pieces a (views ys)) b) (slots ∙ made) (order ∙ found) in
      put ∙ ap (λ (x : List ℕ). old ++ x) (ap (λ zs. kept_object (kept_pieces ss (views zs)) o) values ∙ named ∙ row_kept fs (views ys) fit)
