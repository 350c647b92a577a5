use Rattle.std.proofs.Common.{inl, inr}
use Rattle.commands.proofs.opening.open_beside.Goals as goal

pub returns-in-MayBe : goal.returns-in-MayBe
returns-in-MayBe g c =
    let e = c.open_to_read.ensures in
    record {
      opens = inl (record {
        opens = record { found = e.found; moments = e.moments; sound = e.sound; room = e.room; refused = e.refused; options = e.options; which = e.which; there = e.there; cause = e.cause; reads = e.reads; counts = e.counts; honest = e.honest };
        unchanged = e.unchanged;
      });
    }

pub returns-in-NoFile : goal.returns-in-NoFile
returns-in-NoFile g c =
    let e = c.open.ensures in
    record {
      opens = inr (record {
        opens = record { found = e.found; moments = e.moments; sound = e.sound; room = e.room; refused = e.refused; options = e.options; which = e.which; there = e.there; cause = e.cause; reads = e.reads; counts = e.counts; honest = e.honest };
        unchanged = e.unchanged;
        removes = e.removes;
      });
    }
