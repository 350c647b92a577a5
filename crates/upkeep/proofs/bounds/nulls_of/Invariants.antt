use Rattle.std.proofs.Common.{◌≡◌, ◌+◌, ◌≤◌, drop, map}
use Rattle.schema.specs.Views.{entry_view}
use Rattle.statistics.specs.Bounds.{null_count}
use Rattle.upkeep.proofs.bounds.nulls_of.Given as goal

abbrev pub invariant-loop-entry : goal.invariant-loop-entry
invariant-loop-entry l = record {
  few : l.nulls ≤ l.entry-index;
  counted : l.nulls + null_count (map entry_view (drop l.entry-index l.entries)) ≡ null_count (map entry_view l.entries);
}
