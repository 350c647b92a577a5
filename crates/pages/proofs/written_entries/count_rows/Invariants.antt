use Rattle.std.proofs.Common.{◌≡◌, ◌≤◌, ◌+◌, drop, map}
use Rattle.schema.specs.Borrowed.{entry_ref_view}
use Rattle.pages.specs.Headers.{rows_in}
use Rattle.pages.proofs.written_entries.count_rows.Given as goal

-- the rows so far, and those of the entries that are left
abbrev pub invariant-loop-entry : goal.invariant-loop-entry
invariant-loop-entry l = record {
  counted : l.rows + rows_in (map entry_ref_view (drop l.entry-index l.entries)) ≡ rows_in (map entry_ref_view l.entries);
  few : l.rows ≤ l.entry-index;
}
