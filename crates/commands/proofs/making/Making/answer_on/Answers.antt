use Rattle.std.proofs.Common.{refl}
use Rattle.commands.specs.Calls.{answered, not_opened}
use Rattle.commands.proofs.OpenedSo.{read_so}
use Rattle.commands.proofs.making.Making.answer_on.Goals as goal

pub returns-in-Ok-clause-comes : goal.returns-in-Ok-clause-comes
returns-in-Ok-clause-comes g c =
    let e = c.open_to_read.ensures in
    let opens = read_so c.in-Ok.is (record {
      opens = record { found = e.found; moments = e.moments; sound = e.sound; room = e.room; refused = e.refused; options = e.options; which = e.which; there = e.there; cause = e.cause; reads = e.reads; counts = e.counts; honest = e.honest };
      unchanged = e.unchanged;
    }) in
    answered c.in-Ok.store c.ask-answered.new.store opens c.ask-answered.ensures.prints c.into_disk.ensures

pub returns-in-Err-clause-comes : goal.returns-in-Err-clause-comes
returns-in-Err-clause-comes g c =
    let e = c.open_to_read.ensures in
    let opens = read_so c.in-Err.is (record {
      opens = record { found = e.found; moments = e.moments; sound = e.sound; room = e.room; refused = e.refused; options = e.options; which = e.which; there = e.there; cause = e.cause; reads = e.reads; counts = e.counts; honest = e.honest };
      unchanged = e.unchanged;
    }) in
    not_opened c.in-Err.refusal opens refl refl
