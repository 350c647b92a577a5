use Rattle.std.proofs.Common.{refl}
use Rattle.commands.specs.Calls.{given, none_given}
use Rattle.commands.proofs.OpenedSo.{read_so}
use Rattle.commands.proofs.making.Making.give_on.Goals as goal

pub returns-in-Ok-clause-gives : goal.returns-in-Ok-clause-gives
returns-in-Ok-clause-gives g c =
    let e = c.open_to_read.ensures in
    let opens = read_so c.in-Ok.is (record {
      opens = record { found = e.found; moments = e.moments; sound = e.sound; room = e.room; refused = e.refused; options = e.options; which = e.which; there = e.there; cause = e.cause; reads = e.reads; counts = e.counts; honest = e.honest };
      unchanged = e.unchanged;
    }) in
    given c.in-Ok.store c.give_of-given.new.store opens c.give_of-given.ensures.gives c.into_disk.ensures

pub returns-in-Err-clause-gives : goal.returns-in-Err-clause-gives
returns-in-Err-clause-gives g c =
    let e = c.open_to_read.ensures in
    let opens = read_so c.in-Err.is (record {
      opens = record { found = e.found; moments = e.moments; sound = e.sound; room = e.room; refused = e.refused; options = e.options; which = e.which; there = e.there; cause = e.cause; reads = e.reads; counts = e.counts; honest = e.honest };
      unchanged = e.unchanged;
    }) in
    none_given c.in-Err.refusal opens refl refl
