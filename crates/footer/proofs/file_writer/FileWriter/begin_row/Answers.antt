use Rattle.std.proofs.lemmas.Result.{on_ok_weaker}
use Rattle.footer.specs.Writer.{schema_of, options_of}
use Rattle.footer.proofs.ShownWriter.{row_begins, kept_anyhow}
use Rattle.footer.proofs.file_writer.FileWriter.begin_row.Goals as goal

pub returns-clause-begins : goal.returns-clause-begins
returns-clause-begins c =
    let w = c.args.self.now in
    on_ok_weaker c.make_room.result (λ room rows so. row_begins c.make_room.new.self (schema_of w) (options_of w) rows c.make_room.ensures.same_schema c.make_room.ensures.same_options (room rows so)) c.make_room.ensures.stands

pub returns-clause-same : goal.returns-clause-same
returns-clause-same c = kept_anyhow c.args.self.now c.make_room.new.self c.make_room.result c.make_room.ensures.stands c.make_room.ensures.unchanged
