use Rattle.std.proofs.Common.{◌++◌, [], length, List, ap, sym, subst, ◌∙◌, append-nil, arith}
use Rattle.std.specs.Vec.Iter.{into_iter_items}
use Rattle.std.proofs.lemmas.List.{nil_from_length as nothing_left}
use Rattle.bits.specs.Refusals.{IsFault}
use Rattle.bits.proofs.Passing.{passes}
use Rattle.schema.specs.Elements.{Element, elements_view}
use Rattle.jsonrows.specs.inner.SchemaReading.{AreElementsOf}
use Rattle.jsonrows.specs.inner.SchemaViews.{said_view, saids}
use Rattle.jsonrows.proofs.Elements.{goes_on_with, goes_on_below, no_elements}
use Rattle.jsonrows.proofs.schema_elements.elements_of.Goals as goal

pub returns-in_err-element_of-clause-only : goal.returns-in_err-element_of-clause-only
returns-in_err-element_of-clause-only c =
    let l = c.loop-said in
    passes (λ e. IsFault e → (es : List Element) → AreElementsOf (saids c.args.all.items) es → ⊥) c.from_residual-in_err-element_of.result c.in_err-element_of.field-0.0 c.from_residual-in_err-element_of.ensures.1
    (λ fault. no_elements (saids c.args.all.items) (saids (into_iter_items l.said-iterator)) (saids (into_iter_items c.next.new.self)) (said_view c.in-Some.said) (ap saids c.in-Some.ensures.steps.0)
    (subst (λ xs. (es : List Element) → AreElementsOf (saids xs) es → (left : List Element) × AreElementsOf (saids (into_iter_items l.said-iterator)) left) c.into_iter-said-iterator.ensures.into_iter_gives.0 l.invariant.2)
    (c.in_err-element_of.ensures.only fault))

pub loop-said-preserved : goal.loop-said-preserved
loop-said-preserved c =
    let l = c.loop-said in
    let step = c.in-Some.ensures.steps.0 in
    let gone = c.in-Some.ensures.steps.1 in
    let short = ap length step in
    let was = l.invariant.1 in (
      goes_on_with (saids (into_iter_items c.into_iter-said-iterator.result)) (saids (into_iter_items l.said-iterator)) (saids (into_iter_items c.next.new.self)) (said_view c.in-Some.said) l.elements.items c.push.new.self.items c.in_ok-element_of.field-0
          (ap saids step) c.in_ok-push.ensures.items c.in_ok-element_of.ensures.stands l.invariant.0,
      omega arith,
      goes_on_below _ _ _ _ (ap saids step) l.invariant.2,
    )

pub returns-clause-stands : goal.returns-clause-stands
returns-clause-stands c =
    let l = c.loop-said in
    let made = elements_view l.elements.items in
    let none = nothing_left (into_iter_items l.said-iterator) (sym l.invariant.1 ∙ c.in-None.ensures.steps.0) in
    let whole = l.invariant.0 [] (subst (λ xs. AreElementsOf (saids xs) []) (sym none) tt) in
    subst (AreElementsOf (saids c.args.all.items)) (append-nil made) (subst (λ xs. AreElementsOf (saids xs) (made ++ [])) c.into_iter-said-iterator.ensures.into_iter_gives.0 whole)
