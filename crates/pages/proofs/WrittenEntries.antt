-- The entries that a page is written of.
use Rattle.std.proofs.Common.{◌≡◌, ℕ, ◌<◌, List, length, get_or, sym, ap, subst, ◌∙◌, arith}
use Rattle.std.specs.Prelude.{map}
use Rattle.std.specs.List.{AllByRecursion}
use Rattle.std.proofs.lemmas.List.{length-map, get_or-map}
use Rattle.std.proofs.lemmas.List.Elements.{All-from_recursion, All-get_or}
use Rattle.schema.specs.Stripe.{Entry}
use Rattle.schema.specs.declared.borrowed.EntryRef.{EntryRef}
use Rattle.schema.specs.Borrowed.{entry_ref_view}

-- what holds of all holds of the one at a place
pub entry_here : (P : Entry → Type 0) (es : List EntryRef) (i : ℕ) (e : EntryRef) → i < length es → e ≡ get_or es i e → AllByRecursion P (map entry_ref_view es) → P (entry_ref_view e)
entry_here P es i e lt is all =
    let here : get_or (map entry_ref_view es) i (entry_ref_view e) ≡ entry_ref_view e = get_or-map entry_ref_view es i e (entry_ref_view e) lt ∙ ap entry_ref_view (sym is) in
    subst P here (All-get_or P (map entry_ref_view es) i (entry_ref_view e) (omega (arith, lt, length-map es entry_ref_view)) (All-from_recursion P (map entry_ref_view es) all))
