use Rattle.std.proofs.Common.{map}
use Rattle.schema.specs.Borrowed.{entry_ref_view}
use Rattle.row_group.proofs.chunk_statistics.statistics_of.Goals as goal

pub written-requires-clause-are : goal.written-requires-clause-are
written-requires-clause-are c = (map entry_ref_view c.args.entries.now, c.in_ok-found.ensures.bounds_are)

pub returns-clause-stands : goal.returns-clause-stands
returns-clause-stands c = c.written.ensures.stands (map entry_ref_view c.args.entries.now) c.in_ok-found.ensures.bounds_are c.in_ok-found.ensures.bounds_hold.nulls

pub returns-clause-only : goal.returns-clause-only
returns-clause-only c = c.written.ensures.only (map entry_ref_view c.args.entries.now) c.in_ok-found.ensures.bounds_are
