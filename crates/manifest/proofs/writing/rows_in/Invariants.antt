use Rattle.std.proofs.Common.{◌≡◌, ◌<◌, ◌+◌, ◌^◌, drop}
use Rattle.std.specs.Prelude.{sum_by}
use Rattle.manifest.specs.Groups.{Group, handles_view}
use Rattle.manifest.proofs.writing.rows_in.Given as goal

-- what is left makes the sum whole
abbrev pub invariant-loop-group : goal.invariant-loop-group
invariant-loop-group l = sum_by (λ (g : Group). g.known.rows) (handles_view l.groups) < 2 ^ 64
    → l.sum + sum_by (λ (g : Group). g.known.rows) (handles_view (drop l.group-index l.groups)) ≡ sum_by (λ (g : Group). g.known.rows) (handles_view l.groups)
