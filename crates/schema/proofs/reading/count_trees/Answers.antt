use Rattle.std.proofs.Common.{◌≡◌, ◌∙◌, sym, subst, arith, ℕ, ◌<◌, ◌-◌, ◌+◌, drop, length, true, false}
use Rattle.std.proofs.lemmas.Bool.{false≢true, false_from_ne_true as not_true}
use Rattle.schema.specs.Elements.{element_view, elements_view}
use Rattle.schema.specs.inner.Reading.{well_formed}
use Rattle.schema.proofs.Forest.{trees_step, well_step, well_from, place_parts, well_parts}
use Rattle.schema.proofs.reading.count_trees.Goals as goal
use Rattle.schema.proofs.reading.count_trees.Goals.{then-not-may_have-via-then-not-may_have, then-not-may_have-via-else-not-may_have+then-trees-below}

pub returns-then-not-may_have : goal.returns-then-not-may_have
returns-then-not-may_have c = record {
  counted = not_true _ (λ h.
      let i : ℕ = c.loop-at.at - 1 in
      let k : c.loop-at.at ≡ i + 1 = omega arith in
      let below : i < length c.args.elements.now = omega arith in
      let parts = well_parts (element_view c.index-elements-at.result) (elements_view (drop c.loop-at.at c.args.elements.now))
      (subst (λ t. well_formed t ≡ true) (place_parts c.args.elements.now i c.loop-at.at c.index-elements-at.result k below c.index-elements-at.is) (well_from c.args.elements.now i h)) in
      let enough = parts.1 in
      let trees = c.loop-at.invariant.trees in
      let asked = c.children-below.ensures in
      elim c.then-not-may_have.branch [
        | then-not-may_have-via-then-not-may_have w ↦ false≢true (sym w.if-not-may_have.true ∙ c.may_have.ensures ∙ parts.0)
        | then-not-may_have-via-else-not-may_have+then-trees-below w ↦ (let less = w.if-trees-below.true in absurd (omega (arith, enough, trees, asked, less)))
      ]);
}

pub loop-at-preserved : goal.loop-at-preserved
loop-at-preserved c =
    let i : ℕ = c.loop-at.at - 1 in
    let k : c.loop-at.at ≡ i + 1 = omega arith in
    let below : i < length c.args.elements.now = omega arith in
    let trees = c.loop-at.invariant.trees in
    let asked = c.children-below.ensures in
    let le = c.if-trees-below.false in
    record {
      in_range = omega (arith, le);
      trees = trees_step c.args.elements.now i c.loop-at.at c.index-elements-at.result _ _ k below c.index-elements-at.is trees asked le;
      well = well_step c.args.elements.now i c.loop-at.at c.index-elements-at.result k below c.index-elements-at.is (sym c.may_have.ensures ∙ c.if-not-may_have.false) (omega (arith, trees, asked, le)) c.loop-at.invariant.well;
    }
