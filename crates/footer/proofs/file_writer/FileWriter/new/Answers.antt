use Rattle.std.proofs.Common.{[]}
use Rattle.footer.proofs.Written.{none_given}
use Rattle.footer.proofs.file_writer.FileWriter.new.Goals as goal

pub returns-clause-begins : goal.returns-clause-begins
returns-clause-begins c = record {
  waiting = [];
  held = c.in_ok-new.ensures.begins;
  given = rw (c.in_ok-from_slice.ensures.items, c.new.ensures.items, c.in_ok-new.ensures.of) (none_given c.args.schema.now c.args.options.now (c.is_out_of_range.ensures.within c.if-is_out_of_range.false));
}
