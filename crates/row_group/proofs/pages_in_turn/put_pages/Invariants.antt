use Rattle.std.proofs.Common.{◌-◌, ◌≤◌, length, map, drop}
use Rattle.schema.specs.Borrowed.{entry_ref_view}
use Rattle.schema.specs.Views.{leaf_view}
use Rattle.pages.specs.Page.{values}
use Rattle.row_group.specs.inner.Parts.{HaveIndexes}
use Rattle.row_group.proofs.PartsPut.{PartsPut}
use Rattle.row_group.proofs.pages_in_turn.put_pages.Given as goal

-- the pages of the entries before `at` are written
abbrev pub invariant-loop-at : goal.invariant-loop-at
invariant-loop-at l = record {
  within : l.at ≤ length l.entries;
  put : PartsPut (leaf_view l.leaf) l.options l.values (map entry_ref_view l.entries) l.fn.out.items l.out.items l.at;
  indexes : HaveIndexes l.values l.value (values (drop l.at (map entry_ref_view l.entries)));
}

abbrev pub decreases-loop-at : goal.decreases-loop-at
decreases-loop-at l = length l.entries - l.at
