use Rattle.std.proofs.Common.{◌≡◌, ◌≤◌, ◌<◌, ◌+◌, ◌^◌, length, None, Some}
use Rattle.std.specs.Prelude.{option_map}
use Rattle.std.specs.List.{list_all}
use Rattle.schema.specs.declared.order.Order.TheVariants.{Signed}
use Rattle.schema.specs.Orders.{is_compared}
use Rattle.schema.specs.Values.{integer}
use Rattle.statistics.specs.Bounds.{values, null_count}
use Rattle.statistics.specs.inner.Extremes.{lesser, greater, pick_from}
use Rattle.statistics.proofs.extremes.extremes_of_numbers.Given as goal

-- what is found so far, taken on over the entries that remain, is what all entries give
abbrev pub invariant-entries : goal.invariant-entries
invariant-entries g l =
    let left = g.C.EntryCursor.left in
    record {
      least : pick_from (lesser (Some Signed)) (option_map (λ e. integer e.0) l.ends) (values (left l.cursor)) ≡ pick_from (lesser (Some Signed)) None (values (left l.fn.cursor));
      greatest : pick_from (greater (Some Signed)) (option_map (λ e. integer e.1) l.ends) (values (left l.cursor)) ≡ pick_from (greater (Some Signed)) None (values (left l.fn.cursor));
      all_compared : list_all (is_compared (Some Signed)) (values (left l.cursor)) ≡ list_all (is_compared (Some Signed)) (values (left l.fn.cursor));
      nulls : l.nulls + null_count (left l.cursor) ≡ null_count (left l.fn.cursor);
      few : l.nulls + length (left l.cursor) ≤ length (left l.fn.cursor);
      all_few : length (left l.fn.cursor) < 2 ^ 64;
    }

abbrev pub decreases-entries : goal.decreases-entries
decreases-entries g l = length (g.C.EntryCursor.left l.cursor)
