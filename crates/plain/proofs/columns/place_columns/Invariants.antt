use Rattle.std.proofs.Common.{◌≡◌, ℕ, ◌+◌, ◌*◌, ◌<◌, length, slice_index}
use Rattle.plain.proofs.columns.place_columns.Given as goal

abbrev pub invariant-loop-column : goal.invariant-loop-column
invariant-loop-column l = record {
  len : length l.room ≡ length l.fn.room;
  before : (p : ℕ) → p < l.start → slice_index l.room p ≡ slice_index l.fn.room p;
  each : (r c : ℕ) → r < l.rows → c < l.column → slice_index l.room (l.start + (c * l.rows + r)) ≡ slice_index l.bytes (r * l.columns + c);
}
