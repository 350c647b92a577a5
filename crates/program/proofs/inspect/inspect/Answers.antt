use Rattle.std.proofs.Common.{◌≡◌, ◌⊎◌, inr}
use Rattle.std.proofs.lemmas.Result.{on_ok_weaker}
use Rattle.bits.specs.declared.refusal.Refusal.TheVariants.{Device}
use Rattle.bits.proofs.Passing.{passes}
use Rattle.footer.specs.Faults.{HasFooterFault}
use Rattle.program.proofs.Footers.{is_of_output}
use Rattle.program.proofs.Rows.{is_no_other}
use Rattle.program.proofs.inspect.inspect.Goals as goal

pub returns-clause-stands : goal.returns-clause-stands
returns-clause-stands g c =
    let held = c.in_ok-text.ensures.stands in
    on_ok_weaker c.write_whole.result (λ w. record { front = held.0; meta = held.1; text = _; file = held.2; written = w }) c.write_whole.ensures.stands

pub returns-clause-which : goal.returns-clause-which
returns-clause-which g c = is_of_output c.args.bytes.now c.write_whole.result c.write_whole.ensures.which

pub returns-clause-unchanged : goal.returns-clause-unchanged
returns-clause-unchanged g c = is_no_other _ c.write_whole.result c.write_whole.ensures.which

pub returns-in_err-text-clause-which : goal.returns-in_err-text-clause-which
returns-in_err-text-clause-which g c =
    passes (λ e. (e ≡ Device) ⊎ HasFooterFault c.args.bytes.now e) c.from_residual.result c.in_err-text.field-0.0 c.from_residual.ensures.1 (inr c.in_err-text.ensures.which)
