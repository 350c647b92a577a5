use Rattle.std.proofs.Common.{refl, sym, subst, ◌∙◌, arith}
use Rattle.std.proofs.lemmas.Bool.{false≢true}
use Rattle.std.proofs.lemmas.List.{drop_all}
use Rattle.lists.proofs.Slices.{drop_here as rest_is}
use Rattle.schema.specs.Orders.{IsAtMost}
use Rattle.schema.specs.Values.{view}
use Rattle.upkeep.proofs.Bounding.{Each, to_values, from_values}
use Rattle.upkeep.proofs.bounds.is_maximum.Goals as goal

pub returns-then-not-is_below : goal.returns-then-not-is_below
returns-then-not-is_below c =
    let rest = rest_is c.args.entries.now c.loop-entry.entry-index c.entry-item.result (omega arith) c.entry-item.is in (
      (λ h. absurd (false≢true h)),
      (λ h. absurd (false≢true (sym c.if-not-is_below.true ∙ c.is_below.ensures.1 (subst (Each (λ v. IsAtMost c.args.order v (view c.args.max.now))) rest (c.loop-entry.invariant.left (from_values (λ v. IsAtMost c.args.order v (view c.args.max.now)) c.args.entries.now h))).0))),
    )

pub loop-entry-preserved : goal.loop-entry-preserved
loop-entry-preserved c =
    let rest = rest_is c.args.entries.now c.loop-entry.entry-index c.entry-item.result (omega arith) c.entry-item.is in
    record {
      whole = λ h. c.loop-entry.invariant.whole (subst (Each (λ v. IsAtMost c.args.order v (view c.args.max.now))) (sym rest) (c.is_below.ensures.0 c.if-not-is_below.false, h));
      left = λ h. (subst (Each (λ v. IsAtMost c.args.order v (view c.args.max.now))) rest (c.loop-entry.invariant.left h)).1;
    }

pub returns : goal.returns
returns c = (
  (λ h. to_values (λ v. IsAtMost c.args.order v (view c.args.max.now)) c.args.entries.now (c.loop-entry.invariant.whole (subst (Each (λ v. IsAtMost c.args.order v (view c.args.max.now))) (sym (drop_all c.loop-entry.entry-index c.args.entries.now (omega arith))) tt))),
  (λ h. refl),
)
