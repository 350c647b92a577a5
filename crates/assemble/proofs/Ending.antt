-- The ends of sources.
use Rattle.std.proofs.Common.{ℕ, zero, suc, ◌≡◌, ◌+◌, ◌<◌, List, [], ◌∷◌, map, length, get_or, sym, subst, arith, add-one, None, Some, Option, Ok, true, false}
use Rattle.std.specs.Option.{is_some}
use Rattle.bits.specs.declared.refusal.Refusal.{Refusal}
use Rattle.schema.specs.Stripe.{Entry, Leaf, column}
use Rattle.assemble.specs.Sources.{Begins, Shows}
use Rattle.assemble.specs.Columns.{Columns}
use Rattle.assemble.specs.Standing.{AllStand}
use Rattle.assemble.specs.inner.Steps.{Ended, Filled}

filled_later : (c : List Entry) (cs : Columns) → Filled cs → Filled (c ∷ cs)
filled_later [] cs h = h
filled_later (e ∷ c) cs h = tt

pub filled_at : (cs : Columns) (i r d : ℕ) → i < length cs → Begins (get_or cs i []) r d → Filled cs
filled_at [] i r d lt b = absurd (omega (arith, lt))
filled_at (c ∷ cs) zero r d lt b = here c b
  where
    here : (c : List Entry) → Begins c r d → Filled (c ∷ cs)
    here [] b = absurd b
    here (e ∷ c) b = tt
filled_at (c ∷ cs) (suc i) r d lt b = filled_later c cs (filled_at cs i r d (omega (arith, lt)) b)

module _ {A : Type 0} (S : A → List Entry → Type 0) where
  ended_at : (xs : List A) (x : A) (i : ℕ) → i < length xs → S (get_or xs i x) [] → Ended S i xs → Ended S (suc i) xs
  ended_at [] x i lt e h = absurd (omega (arith, lt))
  ended_at (z ∷ xs) x zero lt e h = (e, tt)
  ended_at (z ∷ xs) x (suc i) lt e h = (h.0, ended_at xs x i (omega (arith, lt)) e h.1)

  pub ended_step : (xs : List A) (x : A) (i : ℕ) → i < length xs → S (get_or xs i x) [] → Ended S i xs → Ended S (i + 1) xs
  ended_step xs x i lt e h = subst (λ m. Ended S m xs) (sym (add-one i)) (ended_at xs x i lt e h)

  -- where all have ended, there are no rows
  pub no_rows : (ls : List Leaf) (xs : List A) → length ls ≡ length xs → Ended S (length xs) xs → AllStand S xs (map (λ (l : Leaf). column [] l.steps) ls)
  no_rows [] [] e h = tt
  no_rows [] (x ∷ xs) e h = absurd (omega (arith, e))
  no_rows (l ∷ ls) [] e h = absurd (omega (arith, e))
  no_rows (l ∷ ls) (x ∷ xs) e h = (h.0, no_rows ls xs (omega (arith, e)) h.1)

pub shows_some : (S : List Entry → Type 0) (r : Option Refusal) (o : Option (ℕ × ℕ)) → true ≡ is_some o → Shows S r (Ok o) → (q : ℕ) × ((d : ℕ) × ((es : List Entry) → S es → Begins es q d))
shows_some S r None s h = cc
shows_some S r (Some levels) s h = (levels.0, (levels.1, h.1))

pub shows_none : (S : List Entry → Type 0) (r : Option Refusal) (o : Option (ℕ × ℕ)) → false ≡ is_some o → Shows S r (Ok o) → S []
shows_none S r None s h = h.1.0
shows_none S r (Some levels) s h = cc
