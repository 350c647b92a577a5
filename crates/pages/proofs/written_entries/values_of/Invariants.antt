use Rattle.std.proofs.Common.{◌≡◌, ◌≤◌, ◌++◌, drop, length, map}
use Rattle.schema.specs.Borrowed.{value_ref_view, entry_ref_view}
use Rattle.pages.specs.Page.{values}
use Rattle.pages.proofs.written_entries.values_of.Given as goal

-- the values so far, and those of the entries that are left
abbrev pub invariant-loop-entry : goal.invariant-loop-entry
invariant-loop-entry l = record {
  all : map value_ref_view l.values.items ++ values (map entry_ref_view (drop l.entry-index l.entries)) ≡ values (map entry_ref_view l.entries);
  few : length l.values.items ≤ l.entry-index;
}
