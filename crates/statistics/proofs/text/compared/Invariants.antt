use Rattle.std.proofs.Common.{◌≡◌, ◌≤◌, ◌-◌, length, drop}
use Rattle.std.specs.Ordering.{nat_cmp}
use Rattle.std.specs.Cmp.Lexicographic.{slice_cmp}
use Rattle.statistics.proofs.text.compared.Given as goal

-- the bytes that are left come in the order of all
abbrev pub invariant-words : goal.invariant-words
invariant-words l =
    record {
      same : slice_cmp nat_cmp (drop l.at l.bytes) (drop l.at l.other) ≡ slice_cmp nat_cmp l.bytes l.other;
      within : l.at ≤ length l.bytes;
      other_within : l.at ≤ length l.other;
    }

abbrev pub decreases-words : goal.decreases-words
decreases-words l = length l.bytes - l.at
