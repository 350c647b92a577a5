-- What sinks are shown: tokens one after another.
use Rattle.std.proofs.Common.{◌≡◌, List, [], ◌∷◌, ◌++◌, sym, ap, subst, ◌∙◌, append_assoc}
use Rattle.std.proofs.lemmas.List.{append-nil}
use Rattle.schema.specs.Values.{ValueTree, group, list, ValueTrees, no_values, value as item}
use Rattle.assemble.specs.Sinks.{Token, group_begins, group_ends, list_begins, list_ends, tokens, tokens_each, Adds, Visits}
use Rattle.assemble.specs.inner.Building.{snoc}

-- one after another
pub adds_then : (S T U : List Token → Type 0) (ts us : List Token) → Adds S T ts → Adds T U us → Adds S U (ts ++ us)
adds_then S T U ts us h g before s = subst U (append_assoc before ts us) (g (before ++ ts) (h before s))

pub adds_none : (S : List Token → Type 0) → Adds S S []
adds_none S before s = subst S (sym (append-nil before)) s

pub tokens_snoc : (vs : ValueTrees) (v : ValueTree) → tokens_each (snoc vs v) ≡ tokens_each vs ++ tokens v
tokens_snoc no_values v = append-nil (tokens v)
tokens_snoc (item u vs) v = ap (λ t. tokens u ++ t) (tokens_snoc vs v) ∙ sym (append_assoc (tokens u) (tokens_each vs) (tokens v))

module _ (S : List Token → Type 0) (T : List Token → Type 0) where
  -- what was visited for one reason is visited for another
  pub visits_up : {V : Type 0} (f : V → List Token) (P Q : V → Type 0) → ((v : V) → P v → Q v) → Visits S T f P → Visits S T f Q
  visits_up f P Q up h = (h.0, (up h.0 h.1.0, h.1.1))

  module _ (U W : List Token → Type 0) (P : ValueTrees → Type 0) (Q : ValueTree → Type 0) where
    -- values between the tokens of a group or a list
    pub visits_group : ((vs : ValueTrees) → P vs → Q (group vs)) → Adds S T (group_begins ∷ []) → Visits T U tokens_each P → Adds U W (group_ends ∷ []) → Visits S W tokens Q
    visits_group up a h b =
        (group h.0, (up h.0 h.1.0, adds_then S T W (group_begins ∷ []) (tokens_each h.0 ++ group_ends ∷ []) a (adds_then T U W (tokens_each h.0) (group_ends ∷ []) h.1.1 b)))

    pub visits_list : ((vs : ValueTrees) → P vs → Q (list vs)) → Adds S T (list_begins ∷ []) → Visits T U tokens_each P → Adds U W (list_ends ∷ []) → Visits S W tokens Q
    visits_list up a h b =
        (list h.0, (up h.0 h.1.0, adds_then S T W (list_begins ∷ []) (tokens_each h.0 ++ list_ends ∷ []) a (adds_then T U W (tokens_each h.0) (list_ends ∷ []) h.1.1 b)))
