-- How it is made of a schema how rows are printed.
use Rattle.std.proofs.Common.{◌≡◌, ℕ, suc, Bool, List, [], ◌∷◌, map, length, Some, None, String, Global, Ordering, Less, Equal, Greater, string_bytes, refl, sym, ap, ap₂, ◌∙◌}
use Rattle.std.specs.Prelude.{if◌then◌else◌}
use Rattle.std.specs.String.{string_cmp}
use Rattle.std.specs.BTreeMap.{insert_entry}
use Rattle.std.specs.Ordering.{match_ordering}
use Rattle.schema.specs.declared.field.Field.{Field as CodeField}
use Rattle.schema.specs.Shape.{count}
use Rattle.schema.specs.Views.{field_view, field_views}
use Rattle.rowtext.specs.inner.Slots.{slot, slots_from, slot_as, slots_as, entries_view, put_index, indices_of, is_in_order, order_of}

pub slots_seen : (texts : Bool) (fs : List CodeField) → slots_from (map (λ f. slot_as texts (field_view f)) fs) ≡ slots_as texts (field_views fs)
slots_seen texts [] = refl
slots_seen texts (f ∷ fs) = ap (slot (slot_as texts (field_view f))) (slots_seen texts fs)

entries_by : (o : Ordering) (a b c : List (String Global × ℕ)) → entries_view (match_ordering o a b c) ≡ match_ordering o (entries_view a) (entries_view b) (entries_view c)
entries_by Less a b c = refl
entries_by Equal a b c = refl
entries_by Greater a b c = refl

pub entries_put : (es : List (String Global × ℕ)) (k : String Global) (i : ℕ) → entries_view (insert_entry string_cmp es k i) ≡ put_index (string_bytes k) i (entries_view es)
entries_put [] k i = refl
entries_put (e ∷ es) k i = entries_by (string_cmp k e.0) _ _ _ ∙ rw (entries_put es k i)

count_seen : (fs : List CodeField) → count (field_views fs) ≡ length fs
count_seen [] = refl
count_seen (f ∷ fs) = ap suc (count_seen fs)

-- the test of the order
pub order_tested : (fs : List CodeField) (os : List ℕ) (n : ℕ) (b : Bool) → os ≡ indices_of (field_views fs) → n ≡ length fs → is_in_order os n ≡ b → (if b then None else Some os) ≡ order_of (field_views fs)
order_tested fs os n b same all is =
    ap (λ t. if t then None else Some os) (sym is) ∙ ap₂ (λ (xs : List ℕ) m. if is_in_order xs m then None else Some xs) same (all ∙ sym (count_seen fs))
