-- Ruled out means that no row satisfies.
use Rattle.std.proofs.Common.{◌≡◌, ℕ, Bool, true, false, ◌&&◌, ◌==◌, List, [], ◌∷◌, length, Option, Some, None, IsTrue, refl, ap, sym, ◌∙◌, inl, inr, eqb-true}
use Rattle.std.specs.Prelude.{IfSome}
use Rattle.std.specs.List.{AllByRecursion, list_any, list_all}
use Rattle.std.proofs.lemmas.Bool.{false≢true, and_right as and_false, or_from as or_false, or_cases as either, and_parts as both_true, not-true as not_so}
use Rattle.lists.proofs.Lists.{all_weaker as all_map, all_always as all_each}
use Rattle.schema.specs.Values.{ValueTree, null, ValueTrees}
use Rattle.schema.specs.Stripe.{column}
use Rattle.schema.specs.declared.order.Order.{Order}
use Rattle.statistics.specs.Bounds.{Statistics, Known, Bounds}
use Rattle.schema.specs.Orders.{IsAtMost}
use Rattle.filter.specs.Test.{Test, is_single, steps_of, value_of}
use Rattle.filter.specs.Deciding.{holds, satisfies}
use Rattle.filter.specs.inner.Excluded.{excludes, is_out_by, is_out, ruled_out}
use Rattle.filter.specs.Law.{Describes, RuledOutHoldsNoRow}
use Rattle.filter.proofs.AtMost.{IsWithin, excluded}
use Rattle.filter.proofs.Relations.{satisfies_is, ruled_out_is}
use Rattle.filter.proofs.Columns.{all_zip, AtRow, each_row, all_null}

-- a term is false of a row
abbrev IsFalseOf : Test → ValueTrees → Type 0
IsFalseOf t row = holds t (value_of t row) ≡ false

null_false : (t : Test) (v : ValueTree) → v ≡ null → holds t v ≡ false
null_false t v h = ap (holds t) h

-- ---- a term that is out

within : (o : Option Order) (s : Statistics) (vs : List ValueTree) → IfSome s.min (λ m. AllByRecursion (λ v. IsAtMost o m v) vs) → IfSome s.max (λ m. AllByRecursion (λ v. IsAtMost o v m) vs) → AllByRecursion (IsWithin o s) vs
within o s vs low high = all_zip _ _ (IsWithin o s) (λ v a b. record { above = a; below = b }) vs (lows s.min low) (highs s.max high)
  where
    lows : (low : Option ValueTree) → IfSome low (λ m. AllByRecursion (λ v. IsAtMost o m v) vs) → AllByRecursion (λ v. IfSome low (λ m. IsAtMost o m v)) vs
    lows None h = all_each _ (λ v. tt) vs
    lows (Some m) h = h

    highs : (high : Option ValueTree) → IfSome high (λ m. AllByRecursion (λ v. IsAtMost o v m) vs) → AllByRecursion (λ v. IfSome high (λ m. IsAtMost o v m)) vs
    highs None h = all_each _ (λ v. tt) vs
    highs (Some m) h = h

out_by : (k : Option ValueTree) (s : Statistics) (n : ℕ) (t : Test) (rows : List ValueTrees) → AllByRecursion (λ s. IsTrue (is_single s)) (steps_of t) → n ≡ length rows
    → IfSome k (λ v. AllByRecursion (λ row. value_of t row ≡ v) rows) → (k ≡ None → Bounds t.order s (column rows (steps_of t)))
    → is_out_by k s n t ≡ true → AllByRecursion (IsFalseOf t) rows
out_by (Some v) s n t rows single counted keyed bounded out =
    all_map _ (IsFalseOf t) (λ row is. ap (holds t) is ∙ not_so (holds t v) out) rows keyed
out_by None s n t rows single counted keyed given out = let bounded = given refl in elim (either (s.nulls == n) (excludes t.order t.op s t.operand) out) [
  | inl as_many ↦ all_map _ (IsFalseOf t) (λ row is. null_false t _ is) rows (all_null (steps_of t) single rows (sym bounded.nulls ∙ eqb-true s.nulls n as_many ∙ counted))
  | inr apart ↦ all_map (AtRow (IsWithin t.order s) (steps_of t)) (IsFalseOf t) (λ row at. elim at [
    | inl is ↦ null_false t _ is
    | inr in_bounds ↦ and_false _ _ (excluded t.order t.op s _ t.operand in_bounds apart)
  ]) rows (each_row (IsWithin t.order s) (steps_of t) single rows (within t.order s _ bounded.minimum bounded.maximum))
]

-- ---- ANDs and ORs

module _ (places : List ℕ) (key : List ValueTree) (known : Known) (rows : List ValueTrees) where
  all_false : (terms : List Test) → AllByRecursion (Describes places key known rows) terms → list_any (is_out places key known) terms ≡ true
      → AllByRecursion (λ row. list_all (λ t. holds t (value_of t row)) terms ≡ false) rows
  unfolding is_out
  all_false [] h out = absurd (false≢true out)
  all_false (t ∷ terms) h out = elim (either (is_out places key known t) (list_any (is_out places key known) terms) out) [
    | inl first ↦ all_map (IsFalseOf t) _ (λ row is. ap (λ (b : Bool). b && list_all (λ u. holds u (value_of u row)) terms) is) rows
        (out_by _ _ known.rows t rows h.0.single h.0.counted h.0.keyed h.0.bounded first)
    | inr later ↦ all_map _ _ (λ row is. and_false (holds t (value_of t row)) _ is) rows (all_false terms h.1 later)
  ]

  none_true : (ands : List (List Test)) → AllByRecursion (AllByRecursion (Describes places key known rows)) ands → list_all (λ terms. list_any (is_out places key known) terms) ands ≡ true
      → AllByRecursion (λ row. list_any (λ terms. list_all (λ t. holds t (value_of t row)) terms) ands ≡ false) rows
  none_true [] h out = all_each _ (λ row. refl) rows
  none_true (terms ∷ ands) h out =
      let parts = both_true _ _ out in
      all_zip _ _ _ (λ row a b. or_false _ _ a b) rows (all_false terms h.0 parts.0) (none_true ands h.1 parts.1)

all_out : (ands : List (List Test)) (places : List ℕ) (key : List ValueTree) (known : Known) (rows : List ValueTrees) → AllByRecursion (AllByRecursion (Describes places key known rows)) ands
    → ruled_out ands places key known ≡ true → AllByRecursion (λ row. satisfies ands row ≡ false) rows
all_out [] places key known rows h out = absurd (false≢true out)
all_out (terms ∷ ands) places key known rows h out = none_true places key known rows (terms ∷ ands) h out

pub ruled_out_holds_no_row : RuledOutHoldsNoRow
ruled_out_holds_no_row ands places key known rows h out =
    all_map _ _ (λ row is k. false≢true (sym is ∙ (satisfies_is ands row).1 k)) rows (all_out ands places key known rows h ((ruled_out_is ands places key known).1 out))
