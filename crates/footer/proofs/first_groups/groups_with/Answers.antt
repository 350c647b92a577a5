use Rattle.std.proofs.Common.{◌≡◌, ℕ, ◌+◌, ◌-◌, [], map, take, drop, refl, sym, ap, subst, ◌∙◌, arith}
use Rattle.metadata.specs.Views.{group_meta_view}
use Rattle.footer.specs.FirstRows.{counted, first_groups}
use Rattle.footer.proofs.FirstGroups.{one_group_more, none_after, all_taken}
use Rattle.footer.proofs.first_groups.groups_with.Goals as goal

pub returns-then-left-eq0 : goal.returns-then-left-eq0
returns-then-left-eq0 c =
    let gs = map group_meta_view c.args.groups.now in
    let none = subst (λ (k : ℕ). [] ≡ first_groups k (map group_meta_view (drop c.loop-index.index c.args.groups.now))) (sym c.if-left-eq0.true) refl in
    let same : c.loop-index.index + 0 ≡ c.loop-index.index = omega arith in
    subst (λ (k : ℕ). take k gs ≡ first_groups c.args.count gs) same (c.loop-index.invariant.whole 0 none)

pub loop-index-preserved : goal.loop-index-preserved
loop-index-preserved c = record {
  whole = λ n p.
      let xs = c.args.groups.now in
      let gs = map group_meta_view xs in
      let at = c.loop-index.index in
      let group = c.index-groups-index in
      let same : at + (n + 1) ≡ at + 1 + n = omega arith in
      let left : c.saturating_sub-left.result ≡ c.loop-index.left - counted (group_meta_view group.result).num_rows = c.saturating_sub-left.ensures ∙ ap (λ (k : ℕ). c.loop-index.left - k) c.rows_of.ensures in
      let after = subst (λ (k : ℕ). take n (map group_meta_view (drop (at + 1) xs)) ≡ first_groups k (map group_meta_view (drop (at + 1) xs))) left p in
      subst (λ (k : ℕ). take k gs ≡ first_groups c.args.count gs) same
      (c.loop-index.invariant.whole (n + 1) (one_group_more group_meta_view xs at group.result c.loop-index.left c.loop-index-test.true group.is c.if-left-eq0.false n after));
}

pub returns : goal.returns
returns c =
    let gs = map group_meta_view c.args.groups.now in
    let same : c.loop-index.index + 0 ≡ c.loop-index.index = omega arith in
    all_taken group_meta_view c.args.groups.now c.loop-index.index c.args.count c.loop-index-test.false
    (subst (λ (k : ℕ). take k gs ≡ first_groups c.args.count gs) same
    (c.loop-index.invariant.whole 0 (none_after group_meta_view c.args.groups.now c.loop-index.index c.loop-index.left c.loop-index-test.false)))
