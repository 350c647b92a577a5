use Rattle.std.proofs.Common.{sym, subst}
use Rattle.bits.specs.Refusals.{HasCause}
use Rattle.scan.proofs.Passages.{only_on, ok_weaker}
use Rattle.scan.proofs.RunTaken.{err_map}
use Rattle.scan.proofs.group_rows.GroupRows.collected.Goals as goal

pub returns-in_err-rows-clause-only : goal.returns-in_err-rows-clause-only
returns-in_err-rows-clause-only c rows s = only_on (λ _. ⊥) c.from_residual.result c.in_err-rows.field-0.0 c.from_residual.ensures.1 (c.in_err-rows.ensures.only rows s)

pub returns-clause-rows_are : goal.returns-clause-rows_are
returns-clause-rows_are c = ok_weaker c.collected.result (λ out is rows s. is rows (c.in_ok-rows.ensures.stands rows s)) c.collected.ensures.rows_are

pub returns-clause-only : goal.returns-clause-only
returns-clause-only c rows s = err_map c.collected.result (λ e is. subst (HasCause (λ _. ⊥)) (sym (is rows (c.in_ok-rows.ensures.stands rows s))) tt) c.collected.ensures.which
