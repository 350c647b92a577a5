use Rattle.std.proofs.Common.{◌≢◌, inl, Some, List, refl, sym, subst}
use Rattle.std.proofs.lemmas.Result.{on_ok_weaker}
use Rattle.bits.specs.declared.refusal.Refusal.TheVariants.{Device}
use Rattle.bits.specs.Refusals.{IsFault}
use Rattle.bits.proofs.Passing.{passes}
use Rattle.schema.specs.Values.{ValueTrees}
use Rattle.schema.specs.Shape.{Fields}
use Rattle.program.specs.Program.{MeansUpTo, MeansRowsUpTo}
use Rattle.program.proofs.Rows.{rows_fit_up_to, is_of_device_up_to, is_no_other, is_no_fault, no_device_up_to, is_accepted}
use Rattle.program.proofs.first_rows.decode_first.Goals as goal

pub returns-clause-stands : goal.returns-clause-stands
returns-clause-stands g c =
    let limit = Some c.args.limit in
    let held = c.in_ok-file.ensures.stands in
    let fs = c.schema.result.now in
    let means : MeansUpTo limit c.args.bytes.now fs held.0 = subst (λ (f : Fields). MeansUpTo limit c.args.bytes.now f held.0) (sym c.schema.ensures) held.1 in
    let fit = rows_fit_up_to limit c.args.bytes.now fs held.0 means in
    on_ok_weaker c.write_first.result
    (λ written. record { fs = fs; rows = held.0; means = means; written = written }) (c.write_first.ensures.stands held.0 (c.rows-rows.ensures held.0 held.2) fit)

pub returns-clause-which : goal.returns-clause-which
returns-clause-which g c =
    let limit = Some c.args.limit in
    let held = c.in_ok-file.ensures.stands in
    let fs = c.schema.result.now in
    let fit = rows_fit_up_to limit c.args.bytes.now fs held.0 (subst (λ (f : Fields). MeansUpTo limit c.args.bytes.now f held.0) (sym c.schema.ensures) held.1) in
    is_of_device_up_to limit c.args.bytes.now c.write_first.result (c.write_first.ensures.which held.0 (c.rows-rows.ensures held.0 held.2) fit)

pub returns-clause-unchanged : goal.returns-clause-unchanged
returns-clause-unchanged g c =
    let limit = Some c.args.limit in
    let held = c.in_ok-file.ensures.stands in
    let fs = c.schema.result.now in
    let fit = rows_fit_up_to limit c.args.bytes.now fs held.0 (subst (λ (f : Fields). MeansUpTo limit c.args.bytes.now f held.0) (sym c.schema.ensures) held.1) in
    is_no_other _ c.write_first.result (c.write_first.ensures.which held.0 (c.rows-rows.ensures held.0 held.2) fit)

pub returns-in_err-file-clause-only : goal.returns-in_err-file-clause-only
returns-in_err-file-clause-only g c =
    passes (λ e. IsFault e → e ≢ Device → (fs : Fields) (rows : List ValueTrees) → MeansUpTo (Some c.args.limit) c.args.bytes.now fs rows → ⊥) c.from_residual.result c.in_err-file.field-0.0 c.from_residual.ensures.1
    (λ fault other. c.in_err-file.ensures.only fault)

pub returns-clause-only : goal.returns-clause-only
returns-clause-only g c =
    let limit = Some c.args.limit in
    let held = c.in_ok-file.ensures.stands in
    let fs = c.schema.result.now in
    let fit = rows_fit_up_to limit c.args.bytes.now fs held.0 (subst (λ (f : Fields). MeansUpTo limit c.args.bytes.now f held.0) (sym c.schema.ensures) held.1) in
    is_no_fault ((fs : Fields) (rows : List ValueTrees) → MeansUpTo limit c.args.bytes.now fs rows → ⊥) c.write_first.result (c.write_first.ensures.which held.0 (c.rows-rows.ensures held.0 held.2) fit)

pub returns-in_err-file-clause-accepted : goal.returns-in_err-file-clause-accepted
returns-in_err-file-clause-accepted g c =
    passes _ c.from_residual.result c.in_err-file.field-0.0 c.from_residual.ensures.1
    (inl (no_device_up_to (Some c.args.limit) c.args.bytes.now c.in_err-file.field-0.0 c.in_err-file.ensures.which, refl))

pub returns-clause-accepted : goal.returns-clause-accepted
returns-clause-accepted g c =
    let held = c.in_ok-file.ensures.stands in
    is_accepted _ (MeansRowsUpTo (Some c.args.limit) c.args.bytes.now) (c.in_ok-file.file.schema, held.0, held.1) c.write_first.result
