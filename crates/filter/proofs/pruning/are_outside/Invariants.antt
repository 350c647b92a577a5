use Rattle.std.proofs.Common.{◌≡◌, drop}
use Rattle.schema.specs.Values.{views, each}
use Rattle.statistics.specs.Bounds.{statistics_of}
use Rattle.filter.specs.inner.Excluded.{is_outside}
use Rattle.filter.proofs.pruning.are_outside.Given as goal

abbrev pub invariant-loop-item : goal.invariant-loop-item
invariant-loop-item l = each (is_outside l.order (statistics_of l.stats)) (views (drop l.item-index l.item-items)) ≡ each (is_outside l.order (statistics_of l.stats)) (views l.item-items)
