use Rattle.std.proofs.Common.{[], ◌∷◌, ◌++◌, refl, ap, sym, subst, ◌∙◌, Err}
use Rattle.std.specs.Str.Lines.{lines}
use Rattle.bits.proofs.Passing.{passes}
use Rattle.schema.specs.Shape.{Fields}
use Rattle.footer.specs.declared.options.WriteOptions.{WriteOptions}
use Rattle.footer.specs.Writer.{schema_of, options_of}
use Rattle.program.specs.inner.Lines.{IsLinesRefusal, IsLineRefusal, AreTooMuch, HasLine}
use Rattle.program.proofs.Told.{told_one_more, told_all, fit_one_more, stopped_at_line, stopped_at_end, file_of_lines}
use Rattle.program.proofs.Refused.{stopped_at_once}
use Rattle.program.proofs.TextLines.{first_lines, next_line, one_more_line, all_lines}
use Rattle.program.proofs.encode.written.Goals as goal

pub returns-in_err-writer-clause-which : goal.returns-in_err-writer-clause-which
returns-in_err-writer-clause-which g c =
    let e = c.in_err-writer.field-0.0 in
    passes (IsLinesRefusal c.args.texts c.args.schema.now c.args.options.now (lines c.args.text.now)) c.from_residual-in_err-writer.result e c.from_residual-in_err-writer.ensures.1
    (stopped_at_once c.args.texts c.args.schema.now c.args.options.now (lines c.args.text.now) e c.in_err-writer.ensures.which (λ is. c.in_err-writer.ensures.limit (ap Err is)))

pub loop-line-init : goal.loop-line-init
loop-line-init g c = (
  c.utf8.text,
  [],
  record {
    joined = refl;
    read = record {
      rows = [];
      told = tt;
      has = c.in_ok-writer.ensures.begins;
      fit = tt;
      fields = c.in_ok-reader.ensures.reads;
      schema = c.in_ok-writer.ensures.of.0;
      options = c.in_ok-writer.ensures.of.1;
    };
    quiet = λ _. refl;
    same = refl;
  },
)

pub returns-in_err-put_line-clause-which : goal.returns-in_err-put_line-clause-which
returns-in_err-put_line-clause-which g c =
    let fs = c.args.schema.now in
    let o = c.args.options.now in
    let texts = lines c.args.text.now in
    let cut = c.loop-line.invariant.1 in
    let read = c.loop-line.invariant.2.read in
    let e = c.in_err-put_line.field-0.0 in
    let so_far = first_lines texts _ cut c.loop-line.invariant.2.joined in
    let here = next_line texts _ _ cut c.in-Some.line c.loop-line.invariant.2.joined c.in-Some.ensures.line in
    let TooMuch = AreTooMuch (schema_of c.loop-line.writer) (options_of c.loop-line.writer) read.rows in
    let refused = subst (λ (t : Fields). IsLineRefusal c.args.texts t c.in-Some.line.now TooMuch e) read.fields (c.in_err-put_line.ensures.which read.rows read.has) in
    passes (IsLinesRefusal c.args.texts fs o texts) c.from_residual-in_err-put_line.result e c.from_residual-in_err-put_line.ensures.1
    (stopped_at_line c.args.texts fs o cut c.in-Some.line texts c.loop-line.writer _ so_far here read e refused)

pub loop-line-preserved : goal.loop-line-preserved
loop-line-preserved g c =
    let fs = c.args.schema.now in
    let o = c.args.options.now in
    let l = c.loop-line in
    let cut = l.invariant.1 in
    let read = l.invariant.2.read in
    let text = c.in-Some.line.now in
    let given = c.in_ok-put_line.ensures.stands read.rows read.has (read.schema ∙ sym read.fields) in
    let line = subst (λ (k : WriteOptions). HasLine c.args.texts fs k text read.rows c.put_line.new.writer) read.options (subst (λ (t : Fields). HasLine c.args.texts t (options_of l.writer) text read.rows c.put_line.new.writer) read.fields given) in (
      c.in-Some.ensures.texts.1,
      cut ++ c.in-Some.line ∷ [],
      record {
        joined = one_more_line (lines c.args.text.now) _ _ cut c.in-Some.line l.invariant.2.joined c.in-Some.ensures.line;
        read = record {
          rows = read.rows ++ line.row ∷ [];
          told = told_one_more c.args.texts fs cut read.rows c.in-Some.line line.row line.is read.told;
          has = line.has;
          fit = fit_one_more fs read.rows line.row read.fit line.fits;
          fields = c.put_line.ensures.same ∙ read.fields;
          schema = line.schema;
          options = line.options;
        };
        quiet = λ hidden. c.count_row.ensures.quiet (l.invariant.2.same ∙ hidden) ∙ l.invariant.2.quiet hidden;
        same = c.count_row.ensures.same ∙ l.invariant.2.same;
      },
    )

pub returns-clause-stands : goal.returns-clause-stands
returns-clause-stands g c =
    let fs = c.args.schema.now in
    let cut = c.loop-line.invariant.1 in
    let read = c.loop-line.invariant.2.read in
    let whole = all_lines (lines c.args.text.now) c.loop-line.rest.now cut c.loop-line.invariant.2.joined c.in_default.ensures.none in
    file_of_lines c.args.texts fs c.args.options.now (lines c.args.text.now) c.loop-line.writer c.finish.result read.rows (told_all c.args.texts fs cut _ read.rows whole read.told) read.has read.schema read.options
    c.finish.ensures.means c.finish.ensures.laid_out c.finish.ensures.in_range

pub returns-clause-which : goal.returns-clause-which
returns-clause-which g c =
    let fs = c.args.schema.now in
    let cut = c.loop-line.invariant.1 in
    let read = c.loop-line.invariant.2.read in
    let whole = all_lines (lines c.args.text.now) c.loop-line.rest.now cut c.loop-line.invariant.2.joined c.in_default.ensures.none in
    stopped_at_end c.args.texts fs c.args.options.now (lines c.args.text.now) c.loop-line.writer c.finish.result read.rows (told_all c.args.texts fs cut _ read.rows whole read.told) read.has read.schema read.options read.fit
    c.finish.ensures.only c.finish.ensures.limit
