use Rattle.std.proofs.Common.{refl}
use Rattle.footer.specs.declared.file_writer.FileWriter.{FileWriter}
use Rattle.footer.proofs.DroppedRow.{IsSame, dropped, whole_dropped}
use Rattle.footer.proofs.file_writer.FileWriterRowSink.drop_row.Goals as goal

pub returns-clause-whole : goal.returns-clause-whole
returns-clause-whole c =
    let old = c.args.self.now in
    let new : FileWriter = record { alloc = old.alloc; options = old.options; bytes = old.bytes; groups = old.groups; written = old.written; waiting = c.drop_row.new.self } in
    let same : IsSame old new = record { schema = c.drop_row.ensures.same_schema; options = refl; bytes = refl; groups = refl; written = refl } in
    whole_dropped old new same c.drop_row.ensures.dropped

pub returns-clause-dropped : goal.returns-clause-dropped
returns-clause-dropped c = λ rows below.
    let old = c.args.self.now in
    let new : FileWriter = record { alloc = old.alloc; options = old.options; bytes = old.bytes; groups = old.groups; written = old.written; waiting = c.drop_row.new.self } in
    let same : IsSame old new = record { schema = c.drop_row.ensures.same_schema; options = refl; bytes = refl; groups = refl; written = refl } in
    dropped old new rows same c.drop_row.ensures.dropped below
