use Rattle.std.proofs.Common.{refl, sym, ◌∙◌}
use Rattle.std.proofs.lemmas.Result.{on_ok_weaker}
use Rattle.footer.specs.Writer.{schema_of, options_of}
use Rattle.shred.proofs.Openings.{one_schema}
use Rattle.footer.proofs.ShownWriter.{one_options, row_ends}
use Rattle.footer.proofs.file_writer.FileWriter.end_row.Goals as goal

pub returns-clause-stands : goal.returns-clause-stands
returns-clause-stands c = on_ok_weaker c.end_row.result (λ ended fs o rows values. row_ends c.args.self.now _ fs o rows values c.end_row.ensures.same_schema refl refl refl refl ended) c.end_row.ensures.stands

pub returns-clause-of : goal.returns-clause-of
returns-clause-of c = λ fs o rows values shown.
    let w = c.args.self.now in
    (c.end_row.ensures.same_schema ∙ sym (one_schema fs (schema_of w) shown.0), sym (one_options o (options_of w) shown.1.0))
