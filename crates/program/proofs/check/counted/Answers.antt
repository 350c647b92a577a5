use Rattle.bits.proofs.Passing.{passes}
use Rattle.program.specs.Program.{AreRefusedTexts}
use Rattle.program.proofs.check.counted.Goals as goal

pub returns-in_err-file-clause-which : goal.returns-in_err-file-clause-which
returns-in_err-file-clause-which g c =
    passes (AreRefusedTexts c.args.texts c.args.options.now c.args.schema_text.now c.args.rows_text.now) c.from_residual.result c.in_err-file.field-0.0 c.from_residual.ensures.1 c.in_err-file.ensures.which

pub returns-clause-stands : goal.returns-clause-stands
returns-clause-stands g c = ((_, c.in_ok-file.ensures.stands), c.count_of_lines.ensures)
