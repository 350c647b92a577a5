-- Each call of a sink that prints is one step.
use Rattle.std.proofs.Common.{◌≡◌, ℕ, zero, suc, ◌<◌, Bool, List, [], ◌∷◌, ◌++◌, length, refl, ap, ap₂, sym, subst, ◌∙◌, arith}
use Rattle.std.specs.Prelude.{Option, None, option_map, slice_set}
use Rattle.assemble.specs.Sinks.{Token, Adds}
use Rattle.rowtext.specs.declared.row_plan.RowPlan.{RowPlan}
use Rattle.rowtext.specs.Rows.{plan_schema, IsReadyAs, shows_from}
use Rattle.rowtext.specs.inner.Slots.{Slots, no_slots, slots_as, order_of, vec_items}
use Rattle.rowtext.specs.inner.Opening.{lines_said}
use Rattle.rowtext.specs.inner.Levels.{State, Level, object, items, held, more, step, run, root_as, top_of, braced_at}

pub run_append : (s : State) (ts us : List Token) → run s (ts ++ us) ≡ run (run s ts) us
run_append s [] us = refl
run_append s (t ∷ ts) us = run_append (step s t) ts us

-- one token more
pub one_step : (p q : RowPlan) (old new : State) (t : Token) → q ≡ p → new ≡ step old t → Adds (shows_from p old) (shows_from q new) (t ∷ [])
one_step p q old new t same is [] h = absurd h
one_step p q old new t same is (x ∷ []) h = absurd h
one_step p q old new t same is (x ∷ y ∷ before) h =
    subst (λ r. shows_from r new (x ∷ (y ∷ (before ++ t ∷ [])))) (sym same) (h.0, (h.1.0, (h.1.1.0, is ∙ ap (λ s. step s t) h.1.1.1 ∙ sym (run_append (root_as h.0 (lines_said y) (plan_schema p)) before (t ∷ [])))))

-- what a call from the same state adds
pub same_shown : (p q r : RowPlan) (s t u : State) (ts : List Token) → q ≡ p → t ≡ s → Adds (shows_from q t) (shows_from r u) ts → Adds (shows_from p s) (shows_from r u) ts
same_shown p q r s t u ts plan same added before h = added before (subst (λ x. shows_from x t before) (sym plan) (subst (λ x. shows_from p x before) (sym same) h))

-- some text more
pub printed_more : (b s : State) (text t u : List ℕ) → b ≡ s → text ≡ b.text ++ t → t ≡ u → held text b.starts b.here b.outer ≡ more s u
printed_more b s text t u is grown same = ap (λ (x : List ℕ). held x b.starts b.here b.outer) (grown ∙ ap (λ (x : List ℕ). b.text ++ x) same) ∙ ap (λ x. more x u) is

-- a brace for the byte that a text begins with
pub brace_put : (text : List ℕ) (n : ℕ) → n < length text → slice_set text n 123 ≡ braced_at n text
brace_put [] n h = absurd (omega (arith, h))
brace_put (x ∷ s) zero h = refl
brace_put (x ∷ s) (suc n) h = ap (λ (r : List ℕ). x ∷ r) (brace_put s n (omega (arith, h)))

-- a text that stands before a row
pub next_begun : (texts : Bool) (p : RowPlan) (text starts lines : List ℕ) (here : Level) (outer : List Level) (from : ℕ) → IsReadyAs texts p → here ≡ top_of p from → from ≡ length text → text ≡ lines → starts ≡ [] → outer ≡ []
    → held text starts here outer ≡ root_as texts lines (plan_schema p)
next_begun texts p text starts lines here outer from ready top len same first last =
    let fs = plan_schema p in
    let level : here ≡ object (slots_as texts fs) (order_of fs) (length lines) 0 = top ∙ ap₂ (λ ss o. object ss o from 0) ready.0 ready.1 ∙ ap (λ n. object (slots_as texts fs) (order_of fs) n 0) (len ∙ ap length same) in
    ap₂ (λ (a b : List ℕ). held a b here outer) same first ∙ ap₂ (λ l ls. held lines [] l ls) level last

abbrev order_in : Level → Option (List ℕ)
order_in (object ss o f n) = o
order_in (items o later) = None

-- a row whose level has no order is of a plan without one
pub no_order : (texts : Bool) (p : RowPlan) (ss : Slots) (lines shown : List ℕ) (row : State) (f : ℕ) → IsReadyAs texts p → row.here ≡ object ss None f 0 → row ≡ held shown [] (object no_slots (order_of (plan_schema p)) (length lines) 0) []
    → None ≡ option_map vec_items p.order
no_order texts p ss lines shown row f ready here ends = ap order_in (sym here) ∙ ap (λ s. order_in s.here) ends ∙ sym ready.1
