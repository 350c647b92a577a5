use Rattle.std.proofs.Common.{refl}
use Rattle.commands.specs.FoundTable.{not_opened}
use Rattle.commands.proofs.OpenedSo.{read_so}
use Rattle.commands.proofs.TablesFound.{found_of}
use Rattle.commands.proofs.making.Making.find_table_on.Goals as goal

pub returns-in-Ok : goal.returns-in-Ok
returns-in-Ok g c =
    let e = c.open_to_read.ensures in
    let opens = read_so c.in-Ok.is (record {
      opens = record { found = e.found; moments = e.moments; sound = e.sound; room = e.room; refused = e.refused; options = e.options; which = e.which; there = e.there; cause = e.cause; reads = e.reads; counts = e.counts; honest = e.honest };
      unchanged = e.unchanged;
    }) in
    record { finds = found_of c.in-Ok.store opens c.into_disk.ensures c.description-table.result c.description-table.ensures.same c.description-table.ensures.which }

pub returns-in-Err : goal.returns-in-Err
returns-in-Err g c =
    let e = c.open_to_read.ensures in
    let opens = read_so c.in-Err.is (record {
      opens = record { found = e.found; moments = e.moments; sound = e.sound; room = e.room; refused = e.refused; options = e.options; which = e.which; there = e.there; cause = e.cause; reads = e.reads; counts = e.counts; honest = e.honest };
      unchanged = e.unchanged;
    }) in
    record { finds = not_opened c.in-Err.refusal opens refl }
