use Rattle.std.proofs.Common.{◌≡◌, drop}
use Rattle.table_state.specs.Lookups.{cursor_at}
use Rattle.table_state.proofs.lookup.find_cursor.Given as goal

-- it is none of those before
abbrev pub invariant-loop-cursor : goal.invariant-loop-cursor
invariant-loop-cursor l = record { left : cursor_at l.number l.cursors ≡ cursor_at l.number (drop l.cursor-index l.cursors) }
