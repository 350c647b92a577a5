use Rattle.std.proofs.Common.{ap, Err}
use Rattle.bits.proofs.Passing.{passes}
use Rattle.footer.specs.Writer.{schema_of, options_of}
use Rattle.rowtext.specs.Reader.{schema_of as fields_of}
use Rattle.program.specs.inner.Lines.{IsLineRefusal, AreTooMuch}
use Rattle.program.proofs.Told.{line_given, refused_at_begin, refused_as_line, refused_at_end}
use Rattle.program.proofs.encode.put_line.Goals as goal

pub returns-in_err-begin_row-clause-which : goal.returns-in_err-begin_row-clause-which
returns-in_err-begin_row-clause-which c = λ rows has.
    let e = c.in_err-begin_row.field-0.0 in
    let fs = fields_of c.args.reader.now in
    let TooMuch = AreTooMuch (schema_of c.args.writer.now) (options_of c.args.writer.now) rows in
    passes (IsLineRefusal c.args.texts fs c.args.line.now TooMuch) c.from_residual.result e c.from_residual.ensures.1
    (refused_at_begin c.args.texts fs c.args.line.now TooMuch e (λ fault. c.in_err-begin_row.ensures.only fault rows has) (λ is. λ later. c.in_err-begin_row.ensures.limit (ap Err is) rows later has))

pub returns-in_err-show_line-clause-which : goal.returns-in_err-show_line-clause-which
returns-in_err-show_line-clause-which c = λ rows has.
    let e = c.in_err-show_line.field-0.0 in
    let fs = fields_of c.args.reader.now in
    let TooMuch = AreTooMuch (schema_of c.args.writer.now) (options_of c.args.writer.now) rows in
    passes (IsLineRefusal c.args.texts fs c.args.line.now TooMuch) c.from_residual-in_err-show_line.result e c.from_residual-in_err-show_line.ensures.1 (refused_as_line c.args.texts fs c.args.line.now TooMuch e c.in_err-show_line.ensures.which)

pub returns-clause-stands : goal.returns-clause-stands
returns-clause-stands c =
    line_given c.args.texts (schema_of c.args.writer.now) (fields_of c.args.reader.now) (options_of c.args.writer.now) c.args.line.now _ _ _ _ c.end_row.result c.in_ok-begin_row.ensures.begins c.in_ok-show_line.ensures.stands c.end_row.ensures.stands c.end_row.ensures.of

pub returns-clause-which : goal.returns-clause-which
returns-clause-which c = λ rows has. refused_at_end c.args.texts (fields_of c.args.reader.now) c.args.line.now (AreTooMuch (schema_of c.args.writer.now) (options_of c.args.writer.now) rows) c.end_row.result c.end_row.ensures.which
