use Rattle.std.proofs.Common.{map, take}
use Rattle.schema.specs.Views.{leaf_view}
use Rattle.metadata.specs.Views.{chunk_meta_view}
use Rattle.shred.specs.Columns.{column_refs_view}
use Rattle.row_group.specs.inner.Columns.{AppendsChunks}
use Rattle.row_group.proofs.group_writing.write_columns.Given as goal

abbrev pub invariant-loop-i : goal.invariant-loop-i
invariant-loop-i l = AppendsChunks l.options (take l.i (map leaf_view l.leaves)) (take l.i (column_refs_view l.columns)) l.fn.out.items l.out.items (map chunk_meta_view l.chunks.items)
