use Rattle.std.proofs.Common.{map, length}
use Rattle.schema.specs.Views.{rows_view}
use Rattle.metadata.specs.Views.{group_meta_view}
use Rattle.footer.specs.Writer.{IsBegun}
use Rattle.footer.proofs.file_writing.write_groups.Given as goal

-- some of the groups are written, and the rows that are left are still to be
abbrev pub invariant-loop-rest : goal.invariant-loop-rest
invariant-loop-rest l = IsBegun l.schema l.options (rows_view l.rows) (rows_view l.rest) l.out.items (map group_meta_view l.groups.items)

abbrev pub decreases-loop-rest : goal.decreases-loop-rest
decreases-loop-rest l = length l.rest
