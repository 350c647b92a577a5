use Rattle.std.proofs.Common.{[], arith}
use Rattle.schema.specs.Values.{ValueTrees}
use Rattle.shred.specs.Buffer.{schema_of as rows_schema}
use Rattle.footer.proofs.Written.{all_wait}
use Rattle.footer.proofs.file_writer.FileWriter.of_rows.Goals as goal

pub returns-clause-begins : goal.returns-clause-begins
returns-clause-begins c held known = record {
  waiting = held;
  held = known;
  given = rw (c.in_ok-from_slice.ensures.items, c.new.ensures.items) (all_wait (rows_schema c.args.rows) c.args.options.now held (c.is_out_of_range.ensures.within c.if-is_out_of_range.false)
      (omega (arith, c.if-len-options.false, c.len.ensures.counted held known)));
}
