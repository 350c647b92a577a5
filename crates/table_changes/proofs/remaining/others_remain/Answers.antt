use Rattle.std.proofs.Common.{[], ◌∙◌, sym, subst}
use Rattle.bits.specs.Refusals.{HasCause}
use Rattle.bits.proofs.Passing.{passes}
use Rattle.schema.specs.Fits.{RowsFit}
use Rattle.schema.specs.Shape.{Fields}
use Rattle.table_changes.proofs.remaining.others_remain.Goals as goal

pub returns-clause-rest : goal.returns-clause-rest
returns-clause-rest c given held fit =
    let of = c.in_ok-rest.ensures.of ∙ c.stored.ensures in
    record {
      schema = c.in_ok-show_rows.ensures.same_schema ∙ of;
      held = c.in_ok-show_rows.ensures.shown given [] (c.in_ok-others.ensures.others given held) (subst (λ (fs : Fields). RowsFit fs given) (sym of) fit) c.in_ok-rest.ensures.begins;
    }

pub returns-in_err-show_rows-clause-only : goal.returns-in_err-show_rows-clause-only
returns-in_err-show_rows-clause-only c given held =
    let others = c.in_ok-others.ensures.accepted given held in
    passes (HasCause (λ _. ⊥)) c.from_residual-in_err-show_rows.result c.in_err-show_rows.field-0.0 c.from_residual-in_err-show_rows.ensures.1 (c.in_err-show_rows.ensures.only others.0 others.1)
