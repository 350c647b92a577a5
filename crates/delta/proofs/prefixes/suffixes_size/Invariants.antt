use Rattle.std.proofs.Common.{◌≤◌, length}
use Rattle.delta.proofs.Completing.{IsSharing}
use Rattle.delta.proofs.prefixes.suffixes_size.Given as goal

abbrev pub invariant-loop-i : goal.invariant-loop-i
invariant-loop-i l = record {
  within : l.at ≤ length l.bytes;
  short : l.before ≤ 16777216;
  sharing : IsSharing l.prefixes l.lengths l.bytes l.at l.before l.i;
}
