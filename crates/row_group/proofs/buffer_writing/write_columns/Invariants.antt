use Rattle.std.proofs.Common.{List, map, take}
use Rattle.schema.specs.Values.{ValueTrees}
use Rattle.schema.specs.Stripe.{columns, leaves_of}
use Rattle.metadata.specs.Views.{chunk_meta_view}
use Rattle.shred.specs.Buffer.{schema_of, holds}
use Rattle.row_group.specs.inner.Columns.{AppendsChunks, Extends}
use Rattle.row_group.proofs.buffer_writing.write_columns.Given as goal

abbrev pub invariant-loop-i : goal.invariant-loop-i
invariant-loop-i l = record {
  stands : (all : List ValueTrees) → holds l.rows all → AppendsChunks l.options (take l.i (leaves_of (schema_of l.rows))) (take l.i (columns (schema_of l.rows) all)) l.fn.out.items l.out.items (map chunk_meta_view l.chunks.items);
  extends : Extends l.fn.out.items l.out.items;
}
