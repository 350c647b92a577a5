-- The values at places of groups.
use Rattle.std.proofs.Common.{◌≡◌, ℕ, zero, suc, ◌+◌, ◌<◌, ◌≤◌, List, [], ◌∷◌, length, get_or, drop, refl, ap, arith}
use Rattle.std.proofs.lemmas.List.{drop_more}
use Rattle.schema.specs.declared.field.Step.{Step as CodeStep}
use Rattle.filter.specs.Test.{way_view}
use Rattle.schema.specs.declared.value.Value.{Value}
use Rattle.schema.specs.Values.{ValueTree, null, view, views, member, member_at, no_values}
use Rattle.schema.specs.Stripe.{Step}
use Rattle.filter.specs.Test.{value_at}

pub member_at_none : (i : ℕ) (vs : List Value) → length vs ≤ i → member_at i (views vs) ≡ null
member_at_none i [] h = at_none i
  where
    at_none : (i : ℕ) → member_at i no_values ≡ null
    at_none zero = refl
    at_none (suc i) = refl
member_at_none zero (v ∷ vs) h = absurd (omega arith)
member_at_none (suc i) (v ∷ vs) h = member_at_none i vs (omega arith)

pub member_at_some : (i : ℕ) (vs : List Value) (d : Value) → i < length vs → member_at i (views vs) ≡ view (get_or vs i d)
member_at_some i [] d h = absurd (omega arith)
member_at_some zero (v ∷ vs) d h = refl
member_at_some (suc i) (v ∷ vs) d h = member_at_some i vs d (omega arith)

pub value_at_null : (p : (List Step)) → value_at p null ≡ null
value_at_null [] = refl
value_at_null (s ∷ p) = value_at_null p

-- one more step of the way
pub value_at-drop : (steps : List CodeStep) (i : ℕ) (d : CodeStep) (t u : ValueTree) → i < length steps → member (get_or steps i d).place t ≡ u → value_at (way_view (drop i steps)) t ≡ value_at (way_view (drop (i + 1) steps)) u
value_at-drop steps i d t u h e = rw (drop_more steps i d h) (ap (value_at (way_view (drop (i + 1) steps))) e)
