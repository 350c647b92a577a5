use Rattle.std.proofs.Common.{◌≡◌, ◌+◌, ◌-◌, ◌^◌, ◌<◌, ◌≤◌, ◌++◌, decimal, drop}
use Rattle.rowtext.proofs.integers.few_after.Given as goal

abbrev pub invariant-loop-count : goal.invariant-loop-count
invariant-loop-count l = record {
  some : 0 < l.number;
  small : l.number < 10 ^ (l.count + 1);
  within : l.count ≤ l.most;
  front : decimal l.number ++ drop l.count l.digits ≡ decimal l.fn.before ++ l.digits;
}

abbrev pub decreases-loop-count : goal.decreases-loop-count
decreases-loop-count l = l.most - l.count
