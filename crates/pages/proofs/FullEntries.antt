-- Entries of a leaf without levels: each begins a row and has a value.
use Rattle.std.proofs.Common.{◌≡◌, ℕ, suc, ◌≤◌, List, [], ◌∷◌, length, Option, Some, None, Result, Ok, Err, refl, sym, ap, subst, ◌∙◌, arith, inl, inr}
use Rattle.std.specs.Prelude.{map}
use Rattle.std.specs.List.{Any, AllByRecursion}
use Rattle.std.specs.Option.{option_map_or}
use Rattle.std.proofs.lemmas.List.{length-map}
use Rattle.bits.specs.declared.refusal.Refusal.{Refusal}
use Rattle.bits.specs.declared.refusal.Refusal.TheVariants.{Limit, Memory}
use Rattle.bits.specs.Refusals.{HasCause, RefusedOnly}
use Rattle.schema.specs.declared.value.Kind.{Kind}
use Rattle.schema.specs.Stripe.{Leaf, Entry}
use Rattle.schema.specs.Law.{IsEntryOf}
use Rattle.schema.specs.Values.{ValueTree, null}
use Rattle.schema.specs.declared.borrowed.EntryRef.{EntryRef}
use Rattle.schema.specs.declared.borrowed.ValueRef.{ValueRef}
use Rattle.schema.specs.Borrowed.{value_ref_view, entry_ref_view}
use Rattle.plain.specs.Plain.{IsTooLong, text_size}
use Rattle.pages.specs.declared.encoding.Encoding.{Encoding}
use Rattle.pages.specs.Headers.{rows_in, nulls_in}
use Rattle.pages.specs.Page.{values}
use Rattle.pages.specs.Writing.{long_value, heavy_page}
use Rattle.pages.specs.inner.Put.{IsOfPlainWriting, IsOfPageWriting}
use Rattle.pages.proofs.WrittenPages.{nulls_and_values}

-- what an entry is written as
abbrev pub lent : EntryRef → ValueTree
lent entry = option_map_or value_ref_view entry.value null

lent_here : (leaf : Leaf) (r d : ℕ) (v : Option ValueRef) (es : List EntryRef) → leaf.greatest_definition ≡ 0 → IsEntryOf leaf (entry_ref_view (record { repetition = r; definition = d; value = v }))
    → map lent es ≡ values (map entry_ref_view es) → map lent (record { repetition = r; definition = d; value = v } ∷ es) ≡ values (map entry_ref_view (record { repetition = r; definition = d; value = v } ∷ es))
lent_here leaf r d None es none is rest = absurd (omega (arith, none, is.value))
lent_here leaf r d (Some v) es none is rest = ap (λ (vs : List ValueTree). value_ref_view v ∷ vs) rest

-- they are written as their values
pub lent_values : (leaf : Leaf) (es : List EntryRef) → leaf.greatest_definition ≡ 0 → AllByRecursion (IsEntryOf leaf) (map entry_ref_view es) → map lent es ≡ values (map entry_ref_view es)
lent_values leaf [] none all = refl
lent_values leaf (e ∷ es) none all = lent_here leaf e.repetition e.definition e.value es none all.0 (lent_values leaf es none all.1)

pub values_count : (leaf : Leaf) (es : List EntryRef) → leaf.greatest_definition ≡ 0 → AllByRecursion (IsEntryOf leaf) (map entry_ref_view es) → length (values (map entry_ref_view es)) ≡ length es
values_count leaf es none all = sym (ap length (lent_values leaf es none all)) ∙ length-map es lent

pub no_nulls : (leaf : Leaf) (es : List EntryRef) → leaf.greatest_definition ≡ 0 → AllByRecursion (IsEntryOf leaf) (map entry_ref_view es) → 0 ≡ nulls_in (map entry_ref_view es)
no_nulls leaf es none all = omega (arith, values_count leaf es none all, nulls_and_values (map entry_ref_view es), length-map es entry_ref_view)

pub rows_are : (leaf : Leaf) (es : List Entry) → leaf.greatest_repetition ≡ 0 → AllByRecursion (IsEntryOf leaf) es → rows_in es ≡ length es
rows_are leaf [] none all = refl
rows_are leaf (e ∷ es) none all =
    let first : e.repetition ≡ 0 = omega (arith, none, all.0.repetition) in
    rw first (ap suc (rows_are leaf es none all.1))

-- what their values are refused for, they are
pub full_refused : {X : Type 0} (kind : Kind) (encoding : Encoding) (es : List Entry) (vs : List ValueTree) (n : ℕ) (r : Result X Refusal) → vs ≡ values es → n ≡ length es → length (values es) ≤ length es
    → RefusedOnly (IsOfPlainWriting n vs) r → RefusedOnly (IsOfPageWriting kind encoding es) r
full_refused kind encoding es vs n (Ok x) same count few which = tt
full_refused kind encoding es vs n (Err e) same count few which = by e which
  where
    by : (f : Refusal) → HasCause (IsOfPlainWriting n vs) f → HasCause (IsOfPageWriting kind encoding es) f
    by Memory cause = tt
    by Limit (inl long) = long_value (subst (Any IsTooLong) same long)
    by Limit (inr (inl heavy)) = heavy_page (omega (arith, heavy, few, ap length same, ap text_size same))
    by Limit (inr (inr many)) = heavy_page (omega (arith, many, count))
    by f cause = absurd cause
