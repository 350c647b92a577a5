-- What is held after the values of a row that fits.
use Rattle.std.proofs.Common.{◌≡◌, ℕ, ◌+◌, Bool, true, false, true≢false, List, [], ◌∷◌, ◌++◌, length, drop, Option, Some, None, refl, ap, ap₂, sym, ◌∙◌, append_assoc, append-nil}
use Rattle.std.specs.List.{concat}
use Rattle.std.specs.Prelude.{IsTrue}
use Rattle.std.proofs.Math.Seq.{take-append_seam, drop-append_seam}
use Rattle.std.proofs.lemmas.List.{length-append}
use Rattle.std.proofs.lemmas.Bool.{and_parts as and_true}
use Rattle.serde_json.specs.Data.{Data, Items, no_items, item, Members}
use Rattle.serde_json.specs.Data as json
use Rattle.serde_json.specs.Written.{compact_text, comma_if, items_text}
use Rattle.schema.specs.declared.value.Repetition.{Repetition}
use Rattle.schema.specs.declared.value.Repetition.TheVariants.{Required, Optional, Repeated}
use Rattle.schema.specs.Annotations.{LeafType}
use Rattle.schema.specs.Values.{ValueTree, null, boolean, integer, bytes, group, list, ValueTrees, no_values, value, each}
use Rattle.schema.specs.Shape.{Field, leaf, fields, Fields, no_fields, field}
use Rattle.schema.specs.Fits.{fits_kind, fits_leaf, fits_as, is_group, fits, fits_each}
use Rattle.assemble.specs.Sinks.{single, group_ends, list_ends, tokens, tokens_each}
use Rattle.rowtext.specs.Json.{leaf_json_as, items_json, json_as, object_json, field_json_as, members_json_as, row_text_as}
use Rattle.rowtext.specs.inner.Slots.{Slot, no_slots, slot_as, slots_as, key_of, key_in, order_of}
use Rattle.rowtext.specs.inner.Levels.{State, Level, object, items, held, next_slot, begun, more, entered, left, inside, with_starts, sorted, braced_at, kept_starts, closed, run, root_as, text_at}
use Rattle.rowtext.proofs.KeptTexts.{no_group, no_list, leaf_of, group_of, leaf_kept}
use Rattle.rowtext.proofs.RowSteps.{run_append}
use Rattle.rowtext.proofs.RowOrder.{starts_of, pieces_as, object_text}

-- values that pass are printed, in a slot, as what is shown of them
abbrev pub IsPrinted : Slot → (ValueTree → Bool) → (ValueTree → Data) → Type 0
IsPrinted slot p shown = (v : ValueTree) → p v ≡ true → (s : State) → next_slot s.here ≡ Some slot → run s (tokens v) ≡ more (begun s) (compact_text (shown v))

module _ (texts : Bool) where
  -- ---- leaves

  leaf_printed : (t : LeafType) (k : List ℕ) → IsPrinted (leaf_of texts t k) (fits_leaf t) (leaf_json_as texts t)
  leaf_printed t k null h s next = ap (λ o. more (begun s) (text_at o null)) next ∙ ap (more (begun s)) (leaf_kept texts t k null h)
  leaf_printed t k (boolean b) h s next = ap (λ o. more (begun s) (text_at o (boolean b))) next ∙ ap (more (begun s)) (leaf_kept texts t k (boolean b) h)
  leaf_printed t k (integer z) h s next = ap (λ o. more (begun s) (text_at o (integer z))) next ∙ ap (more (begun s)) (leaf_kept texts t k (integer z) h)
  leaf_printed t k (bytes x) h s next = ap (λ o. more (begun s) (text_at o (bytes x))) next ∙ ap (more (begun s)) (leaf_kept texts t k (bytes x) h)
  leaf_printed t k (group vs) h s next = absurd (no_group t.kind vs (and_true (fits_kind t.kind (group vs)) _ h).0)
  leaf_printed t k (list vs) h s next = absurd (no_list t.kind vs (and_true (fits_kind t.kind (list vs)) _ h).0)

  -- ---- lists

  module _ (slot : Slot) (p : ValueTree → Bool) (shown : ValueTree → Data) (one : IsPrinted slot p shown) where
    list_printed : (vs : ValueTrees) → each p vs ≡ true → (text starts : List ℕ) (later : Bool) (l : Level) (ls : List Level)
        → left (more (run (held text starts (items (Some slot) later) (l ∷ ls)) (tokens_each vs)) (93 ∷ [])) ≡ held (text ++ items_text later (items_json shown vs)) starts l ls
    list_printed no_values h text starts later l ls = refl
    list_printed (value v vs) h text starts later l ls =
        let q = and_true (p v) (each p vs) h in
        let s = held text starts (items (Some slot) later) (l ∷ ls) in
        let c = compact_text (shown v) in
        ap (λ x. left (more x (93 ∷ []))) (run_append s (tokens v) (tokens_each vs) ∙ ap (λ x. run x (tokens_each vs)) (one v q.0 s refl))
        ∙ list_printed vs q.1 ((text ++ comma_if later) ++ c) starts true l ls
        ∙ ap (λ (x : List ℕ). held x starts l ls) (append_assoc (text ++ comma_if later) c _ ∙ append_assoc text (comma_if later) _)

    abbrev IsNullPrinted : Type 0
    IsNullPrinted = (s : State) → next_slot s.here ≡ Some slot → run s (single null ∷ []) ≡ more (begun s) (compact_text json.null)

    as_printed : IsNullPrinted → (r : Repetition) → IsPrinted slot (fits_as r p) (json_as r shown)
    as_printed none Required v h s next = one v h s next
    as_printed none Optional null h s next = none s next
    as_printed none Optional (boolean b) h s next = one (boolean b) h s next
    as_printed none Optional (integer z) h s next = one (integer z) h s next
    as_printed none Optional (bytes x) h s next = one (bytes x) h s next
    as_printed none Optional (group vs) h s next = one (group vs) h s next
    as_printed none Optional (list vs) h s next = one (list vs) h s next
    as_printed none Repeated null h s next = absurd (true≢false (sym h))
    as_printed none Repeated (boolean b) h s next = absurd (true≢false (sym h))
    as_printed none Repeated (integer z) h s next = absurd (true≢false (sym h))
    as_printed none Repeated (bytes x) h s next = absurd (true≢false (sym h))
    as_printed none Repeated (group vs) h s next = absurd (true≢false (sym h))
    as_printed none Repeated (list vs) h s next =
        let b = begun s in
        let first = more (entered b (items (next_slot s.here) false)) (91 ∷ []) in
        run_append first (tokens_each vs) (list_ends ∷ [])
        ∙ ap (λ o. left (more (run (more (entered b (items o false)) (91 ∷ [])) (tokens_each vs)) (93 ∷ []))) next
        ∙ list_printed vs h (b.text ++ 91 ∷ []) b.starts false b.here b.outer
        ∙ ap (λ (x : List ℕ). held x b.starts b.here b.outer) (append_assoc b.text (91 ∷ []) _)

  -- ---- groups and rows

  -- the values of fields leave their pieces
  abbrev ArePrinted : Fields → Type 0
  ArePrinted fs =
      (vs : ValueTrees) → fits_each fs vs ≡ true → (text starts : List ℕ) (o : Option (List ℕ)) (f n : ℕ) (outer : List Level)
      → run (held text starts (object (slots_as texts fs) o f n) outer) (tokens_each vs)
      ≡ held (text ++ concat (pieces_as texts fs vs)) (with_starts o starts (starts_of (length text) (pieces_as texts fs vs))) (object no_slots o f n) outer

  -- where the order stays, starts are not needed
  started_none : (o : Option (List ℕ)) (starts : List ℕ) → starts ≡ with_starts o starts []
  started_none None starts = refl
  started_none (Some order) starts = sym (append-nil starts)

  started_more : (o : Option (List ℕ)) (starts : List ℕ) (at : ℕ) (later : List ℕ) → with_starts o (with_starts o starts (at ∷ [])) later ≡ with_starts o starts (at ∷ later)
  started_more None starts at later = refl
  started_more (Some order) starts at later = append_assoc starts (at ∷ []) later

  sorted_started : (o : Option (List ℕ)) (text starts added : List ℕ) (f : ℕ) → sorted text (drop (length starts) (with_starts o starts added)) f o ≡ sorted text added f o
  sorted_started None text starts added f = refl
  sorted_started (Some order) text starts added f = ap (λ (a : List ℕ). sorted text a f (Some order)) (drop-append_seam starts added)

  started_before : (o : Option (List ℕ)) (starts added : List ℕ) → kept_starts o (length starts) (with_starts o starts added) ≡ starts
  started_before None starts added = refl
  started_before (Some order) starts added = take-append_seam starts added

  -- an object that is closed
  object_closed : (fs : Fields) (vs : ValueTrees) → fits_each fs vs ≡ true → (text starts : List ℕ) (outer : List Level)
      → closed (held (text ++ concat (pieces_as texts fs vs)) (with_starts (order_of fs) starts (starts_of (length text) (pieces_as texts fs vs))) (object no_slots (order_of fs) (length text) (length starts)) outer)
      ≡ held (text ++ compact_text (json.object (members_json_as texts fs vs))) starts (object no_slots (order_of fs) (length text) (length starts)) outer
  object_closed fs vs h text starts outer =
      let ps = pieces_as texts fs vs in
      let l = object no_slots (order_of fs) (length text) (length starts) in
      ap₂ (λ (a b : List ℕ). held (braced_at (length text) a ++ 125 ∷ []) b l outer)
      (sorted_started (order_of fs) (text ++ concat ps) starts (starts_of (length text) ps) (length text)) (started_before (order_of fs) starts (starts_of (length text) ps))
      ∙ ap (λ (a : List ℕ). held a starts l outer) (object_text texts fs vs text h)

  group_printed : (fs : Fields) (k : List ℕ) → ArePrinted fs → IsPrinted (group_of texts fs k) (is_group (fits_each fs)) (object_json (members_json_as texts fs))
  group_printed fs k all null h s next = absurd (true≢false (sym h))
  group_printed fs k all (boolean b) h s next = absurd (true≢false (sym h))
  group_printed fs k all (integer z) h s next = absurd (true≢false (sym h))
  group_printed fs k all (bytes x) h s next = absurd (true≢false (sym h))
  group_printed fs k all (list vs) h s next = absurd (true≢false (sym h))
  group_printed fs k all (group vs) h s next =
      let b = begun s in
      let first = entered b (inside (next_slot s.here) (length b.text) (length b.starts)) in
      run_append first (tokens_each vs) (group_ends ∷ [])
      ∙ ap (λ o. left (closed (run (entered b (inside o (length b.text) (length b.starts))) (tokens_each vs)))) next
      ∙ ap (λ x. left (closed x)) (all vs h b.text b.starts (order_of fs) (length b.text) (length b.starts) (b.here ∷ b.outer))
      ∙ ap left (object_closed fs vs h b.text b.starts (b.here ∷ b.outer))

  null_in : (slot : Slot) → text_at (Some slot) null ≡ compact_text json.null → (s : State) → next_slot s.here ≡ Some slot → run s (single null ∷ []) ≡ more (begun s) (compact_text json.null)
  null_in slot is s next = ap (λ o. more (begun s) (text_at o null)) next ∙ ap (more (begun s)) is

  mutual
    field_printed : (f : Field) → IsPrinted (slot_as texts f) (fits f) (field_json_as texts f)
    field_printed (leaf n r t) v h s next = as_printed (leaf_of texts t (key_of n)) (fits_leaf t) (leaf_json_as texts t) (leaf_printed t (key_of n)) (null_in (leaf_of texts t (key_of n)) refl) r v h s next
    field_printed (fields n r a fs) v h s next =
        as_printed (group_of texts fs (key_of n)) (is_group (fits_each fs)) (object_json (members_json_as texts fs)) (group_printed fs (key_of n) (fields_printed fs)) (null_in (group_of texts fs (key_of n)) refl) r v h s next

    fields_printed : (fs : Fields) → ArePrinted fs
    fields_printed no_fields no_values h text starts o f n outer = ap₂ (λ (a b : List ℕ). held a b (object no_slots o f n) outer) (sym (append-nil text)) (started_none o starts)
    fields_printed no_fields (value v vs) h text starts o f n outer = absurd (true≢false (sym h))
    fields_printed (field d fs) no_values h text starts o f n outer = absurd (true≢false (sym h))
    fields_printed (field d fs) (value v vs) h text starts o f n outer =
        let q = and_true (fits d v) (fits_each fs vs) h in
        let s = held text starts (object (slots_as texts (field d fs)) o f n) outer in
        let key = key_in (slot_as texts d) in
        let c = compact_text (field_json_as texts d v) in
        let ps = pieces_as texts fs vs in
        let at : length ((text ++ key) ++ c) ≡ length text + length (key ++ c) = ap length (append_assoc text key c) ∙ length-append text (key ++ c) in
        run_append s (tokens v) (tokens_each vs) ∙ ap (λ x. run x (tokens_each vs)) (field_printed d v q.0 s refl)
        ∙ fields_printed fs vs q.1 ((text ++ key) ++ c) (with_starts o starts (length text ∷ [])) o f n outer
        ∙ ap₂ (λ (a b : List ℕ). held a b (object no_slots o f n) outer) (ap (λ (x : List ℕ). x ++ concat ps) (append_assoc text key c) ∙ append_assoc text (key ++ c) (concat ps))
        (started_more o starts (length text) _ ∙ ap (λ m. with_starts o starts (length text ∷ starts_of m ps)) at)

  -- after the values of a row that fits, its object is closed to the row's text
  pub row_closed : (fs : Fields) (vs : ValueTrees) → IsTrue (fits_each fs vs) → (lines : List ℕ) (s : State) → s ≡ run (root_as texts lines fs) (tokens_each vs)
      → closed s ≡ held (lines ++ row_text_as texts fs vs) [] (object no_slots (order_of fs) (length lines) 0) []
  row_closed fs vs h lines s is = ap closed (is ∙ fields_printed fs vs h lines [] (order_of fs) (length lines) 0 []) ∙ object_closed fs vs h lines [] []
