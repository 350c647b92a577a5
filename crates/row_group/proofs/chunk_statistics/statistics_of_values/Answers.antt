use Rattle.std.proofs.Common.{◌≡◌, List, [], ◌∷◌, refl, arith}
use Rattle.schema.specs.Values.{ValueTree}
use Rattle.plain.specs.Flat.{flat_entries}
use Rattle.plain.specs.ValuesLeft.{values_left}
use Rattle.statistics.specs.Bounds.{null_count}
use Rattle.row_group.proofs.chunk_statistics.statistics_of_values.Goals as goal

no_nulls : (vs : List ValueTree) → null_count (flat_entries vs) ≡ 0
no_nulls [] = refl
no_nulls (v ∷ vs) = no_nulls vs

pub written-requires-clause-few : goal.written-requires-clause-few
written-requires-clause-few c = omega (arith, c.in_ok-found.ensures.bounds_hold.nulls, no_nulls (values_left c.args.values))

pub written-requires-clause-are : goal.written-requires-clause-are
written-requires-clause-are c = (flat_entries (values_left c.args.values), c.in_ok-found.ensures.bounds_are)

pub returns-clause-stands : goal.returns-clause-stands
returns-clause-stands c = c.written.ensures.stands (flat_entries (values_left c.args.values)) c.in_ok-found.ensures.bounds_are c.in_ok-found.ensures.bounds_hold.nulls

pub returns-clause-only : goal.returns-clause-only
returns-clause-only c = c.written.ensures.only (flat_entries (values_left c.args.values)) c.in_ok-found.ensures.bounds_are
