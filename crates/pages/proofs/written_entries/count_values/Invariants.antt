use Rattle.std.proofs.Common.{◌≡◌, ◌≤◌, ◌+◌, length, drop, map}
use Rattle.schema.specs.Borrowed.{entry_ref_view}
use Rattle.pages.specs.Page.{values}
use Rattle.pages.proofs.written_entries.count_values.Given as goal

-- the values so far, and those of the entries that are left
abbrev pub invariant-loop-entry : goal.invariant-loop-entry
invariant-loop-entry l = record {
  counted : l.count + length (values (map entry_ref_view (drop l.entry-index l.entries))) ≡ length (values (map entry_ref_view l.entries));
  few : l.count ≤ l.entry-index;
}
