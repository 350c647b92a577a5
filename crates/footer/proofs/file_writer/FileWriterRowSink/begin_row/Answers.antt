use Rattle.std.proofs.Common.{refl}
use Rattle.footer.specs.declared.file_writer.FileWriter.{FileWriter}
use Rattle.footer.proofs.DroppedRow.{IsSame, whole_marked, shown_marked}
use Rattle.footer.proofs.file_writer.FileWriterRowSink.begin_row.Goals as goal

pub returns-clause-whole : goal.returns-clause-whole
returns-clause-whole c =
    let old = c.args.self.now in
    let new : FileWriter = record { alloc = old.alloc; options = old.options; bytes = old.bytes; groups = old.groups; written = old.written; waiting = c.begin_row.new.self } in
    let same : IsSame old new = record { schema = c.begin_row.ensures.same_schema; options = refl; bytes = refl; groups = refl; written = refl } in
    whole_marked old new same (λ rows held. let m = c.begin_row.ensures.begins rows held in (m.0, m.1.1))

pub returns-clause-shows : goal.returns-clause-shows
returns-clause-shows c =
    let old = c.args.self.now in
    let new : FileWriter = record { alloc = old.alloc; options = old.options; bytes = old.bytes; groups = old.groups; written = old.written; waiting = c.begin_row.new.self } in
    let same : IsSame old new = record { schema = c.begin_row.ensures.same_schema; options = refl; bytes = refl; groups = refl; written = refl } in
    shown_marked old new same c.begin_row.ensures.shows
