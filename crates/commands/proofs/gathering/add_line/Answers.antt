use Rattle.std.proofs.lemmas.Result.{on_ok_weaker}
use Rattle.rowtext.specs.Reader.{schema_of}
use Rattle.commands.proofs.RowsGathered.{line_gathered}
use Rattle.commands.proofs.gathering.add_line.Goals as goal

pub returns-clause-stands : goal.returns-clause-stands
returns-clause-stands c =
    on_ok_weaker c.end_row.result
    (line_gathered c.args.texts (schema_of c.args.reader.now) c.args.line.now c.args.gathered.now c.begin_row.new.self c.read_to_as.new.sink c.end_row.new.self c.begin_row.ensures.begins
    c.in_ok-read_to_as.ensures.stands) c.end_row.ensures.stands
