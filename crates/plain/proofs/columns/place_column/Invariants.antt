use Rattle.std.proofs.Common.{◌≡◌, ℕ, ◌+◌, ◌*◌, ◌<◌, length, slice_index}
use Rattle.plain.proofs.columns.place_column.Given as goal

abbrev pub invariant-loop-row : goal.invariant-loop-row
invariant-loop-row l = record {
  len : length l.room ≡ length l.fn.room;
  before : (p : ℕ) → p < l.at → slice_index l.room p ≡ slice_index l.fn.room p;
  each : (r : ℕ) → r < l.row → slice_index l.room (l.at + r) ≡ slice_index l.bytes (r * l.columns + l.column);
}
