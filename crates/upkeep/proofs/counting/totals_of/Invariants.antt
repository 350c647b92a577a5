use Rattle.std.proofs.Common.{◌≡◌, ◌+◌, drop, length}
use Rattle.std.specs.Prelude.{sum_by}
use Rattle.manifest.specs.Groups.{Group, groups_in}
use Rattle.manifest.specs.Laid.{bytes_of}
use Rattle.upkeep.proofs.counting.totals_of.Given as goal

-- with those of the groups that are left
abbrev pub invariant-loop-i : goal.invariant-loop-i
invariant-loop-i l = record {
  rows : l.totals.rows + sum_by (λ (g : Group). g.known.rows) (drop l.i (groups_in l.groups)) ≡ sum_by (λ (g : Group). g.known.rows) (groups_in l.groups);
  groups : l.totals.groups ≡ l.i;
  bytes : l.totals.bytes + sum_by bytes_of (drop l.i (groups_in l.groups)) ≡ sum_by bytes_of (groups_in l.groups);
}
