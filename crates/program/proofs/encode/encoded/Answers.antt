use Rattle.std.proofs.Common.{inr, ap, ◌∙◌, Err}
use Rattle.bits.proofs.Passing.{passes}
use Rattle.program.specs.Program.{AreRefusedTexts}
use Rattle.program.proofs.Refused.{by_line, too_much}
use Rattle.program.proofs.encode.encoded.Goals as goal

pub returns-in_err-check_lines-in-Err-Limit-clause-which : goal.returns-in_err-check_lines-in-Err-Limit-clause-which
returns-in_err-check_lines-in-Err-Limit-clause-which g c =
    let o = c.args.options.now in
    let e = c.in_err-check_lines-in-Err-Limit.field-0.0 in
    passes (AreRefusedTexts c.args.texts o c.args.schema_text.now c.args.rows_text.now) c.from_residual-in_err-check_lines-in-Err-Limit.result e c.from_residual-in_err-check_lines-in-Err-Limit.ensures.1
    (by_line c.args.texts o c.args.schema_text.now c.args.rows_text.now c.in_ok-schema.schema e c.in_ok-schema.ensures.stands c.in_err-check_lines-in-Err-Limit.ensures.which)

pub returns-in-Err-Limit-clause-which : goal.returns-in-Err-Limit-clause-which
returns-in-Err-Limit-clause-which g c =
    inr (too_much c.args.texts c.args.options.now c.args.schema_text.now c.args.rows_text.now c.in_ok-schema.schema c.written-made.result (c.in-Err-Limit.is ∙ ap Err c.in-Err-Limit.field-0-is) c.in_ok-schema.ensures.stands
    c.in_ok-check_lines-in-Err-Limit.ensures.stands c.written-made.ensures.which)
