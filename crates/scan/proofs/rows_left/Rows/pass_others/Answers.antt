use Rattle.std.proofs.Common.{◌≡◌, List, sym, ◌∙◌, arith}
use Rattle.bits.specs.declared.fault.Fault.{Fault}
use Rattle.bits.specs.declared.fault.Fault.TheVariants.{Memory}
use Rattle.schema.specs.Values.{ValueTrees}
use Rattle.scan.specs.Left.{rows_stand}
use Rattle.scan.proofs.Taken.{err_only, pass_one, one_memory}
use Rattle.scan.proofs.rows_left.Rows.pass_others.Goals as goal

pub others-preserved : goal.others-preserved
others-preserved c rows s =
    let shown = c.in_ok-show_first.ensures.shows in
    pass_one c.others.self c.show_first.new.self (λ e. let t = c.others-test.true in omega (arith, t, e)) shown.0 (λ x rest stand. (shown.1 x rest stand).0) (sym c.is_selected.ensures ∙ c.if-not-is_selected.true) rows (c.others.invariant rows s)

pub returns-in_err-show_first-clause-only : goal.returns-in_err-show_first-clause-only
returns-in_err-show_first-clause-only c =
    err_only (λ (f : Fault). (rows : List ValueTrees) → rows_stand c.args.self.now rows → f ≡ Memory) c.from_residual.result c.in_err-show_first.field-0.0 c.from_residual.ensures.1
    (λ rows s. one_memory c.others.self c.show_first.new.self (λ _. Unit {0}) (λ _. Unit {0}) (λ e. let t = c.others-test.true in omega (arith, t, e)) c.in_err-show_first.field-0.0 c.in_err-show_first.ensures.only rows (c.others.invariant rows s))
