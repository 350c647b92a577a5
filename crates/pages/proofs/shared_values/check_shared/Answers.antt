use Rattle.std.proofs.Common.{ℕ, List, map, subst, sym, arith}
use Rattle.std.specs.Prelude.{IsTrue}
use Rattle.bits.specs.Refusals.{IsFault}
use Rattle.bits.proofs.Passing.{passes}
use Rattle.schema.specs.Fits.{fits_leaf}
use Rattle.schema.specs.Values.{bytes}
use Rattle.schema.specs.Views.{leaf_type_view}
use Rattle.delta.specs.ValuesLeft.{values_left}
use Rattle.pages.specs.inner.Reading.{AllFit}
use Rattle.pages.proofs.SharedValues.{none_to_fit, taken_fits}
use Rattle.pages.proofs.shared_values.check_shared.Goals as goal

pub returns-in_err-check_value-clause-only : goal.returns-in_err-check_value-clause-only
returns-in_err-check_value-clause-only c =
    let t = leaf_type_view c.args.leaf_type.now in
    passes (λ e. IsFault e → AllFit t (map bytes (values_left c.args.values)) → ⊥) c.from_residual-in_err-check_value.result c.in_err-check_value.field-0.0 c.from_residual-in_err-check_value.ensures.1
    (λ fault fit. c.in_err-check_value.ensures.only fault (subst (λ (s : List ℕ). IsTrue (fits_leaf t (bytes s))) (sym c.value.ensures)
    (taken_fits t c.loop-i.values c.advance.new.self c.in_ok-advance.field-0 c.if-branch.true c.in_ok-advance.ensures (c.loop-i.invariant.1.1 fit))))

pub returns-clause-fit : goal.returns-clause-fit
returns-clause-fit c = c.loop-i.invariant.1.0 (none_to_fit (leaf_type_view c.args.leaf_type.now) (values_left c.loop-i.values) (omega (arith, c.loop-i.invariant.0, c.loop-i-test.false, c.len-i-end.ensures)))
