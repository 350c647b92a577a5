use Rattle.std.proofs.Common.{◌≡◌, ◌≤◌, map, take}
use Rattle.schema.specs.Borrowed.{entry_ref_view}
use Rattle.pages.specs.Headers.{rows_in}
use Rattle.row_group.proofs.pages_in_turn.first_page_len.Given as goal

-- the rows of the entries so far are counted
abbrev pub invariant-loop-i : goal.invariant-loop-i
invariant-loop-i l = record {
  counted : rows_in (map entry_ref_view (take l.i l.entries)) ≡ l.rows;
  few : l.rows ≤ l.page_rows;
}
