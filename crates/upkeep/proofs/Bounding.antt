-- What holds of each value of a column, entry by entry.
use Rattle.std.proofs.Common.{◌≡◌, ◌+◌, List, [], ◌∷◌, map, option_map, Option, Some, None}
use Rattle.std.specs.Prelude.{IfSome, cond, is_none}
use Rattle.std.specs.List.{AllByRecursion, cons_option}
use Rattle.std.proofs.lemmas.List.Sums.{sum_by-cons}
use Rattle.schema.specs.Values.{ValueTree, view}
use Rattle.schema.specs.Stripe.{Entry}
use Rattle.schema.specs.Views.{entry_view}
use Rattle.schema.specs.declared.row.Entry.{Entry as CodeEntry}
use Rattle.statistics.specs.Bounds.{values, null_count}

module _ (P : ValueTree → Type 0) where
  abbrev pub Each : List CodeEntry → Type 0
  Each es = AllByRecursion (λ (e : CodeEntry). IfSome (option_map view e.value) P) es

  one_more : (o : Option ValueTree) (vs : List ValueTree) → IfSome o P → AllByRecursion P vs → AllByRecursion P (cons_option o vs)
  one_more None vs is all = all
  one_more (Some v) vs is all = (is, all)

  first : (o : Option ValueTree) (vs : List ValueTree) → AllByRecursion P (cons_option o vs) → IfSome o P
  first None vs all = tt
  first (Some v) vs all = all.0

  others : (o : Option ValueTree) (vs : List ValueTree) → AllByRecursion P (cons_option o vs) → AllByRecursion P vs
  others None vs all = all
  others (Some v) vs all = all.1

  pub to_values : (es : List CodeEntry) → Each es → AllByRecursion P (values (map entry_view es))
  to_values [] h = tt
  to_values (e ∷ es) h = one_more (option_map view e.value) (values (map entry_view es)) h.0 (to_values es h.1)

  pub from_values : (es : List CodeEntry) → AllByRecursion P (values (map entry_view es)) → Each es
  from_values [] h = tt
  from_values (e ∷ es) h =
      let o = option_map view e.value in
      let vs = values (map entry_view es) in
      (first o vs h, from_values es (others o vs h))

-- the nulls of a column, the first entry apart
pub nulls_more : (e : CodeEntry) (es : List CodeEntry) → null_count (map entry_view (e ∷ es)) ≡ cond (is_none (option_map view e.value)) 1 0 + null_count (map entry_view es)
nulls_more e es = sum_by-cons (λ (x : Entry). cond (is_none x.value) 1 0) (entry_view e) (map entry_view es)
