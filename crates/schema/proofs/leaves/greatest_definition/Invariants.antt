use Rattle.std.proofs.Common.{◌≡◌, ◌≤◌, ◌+◌, drop, map}
use Rattle.schema.specs.Stripe.{greatest_definition}
use Rattle.schema.specs.Views.{step_view}
use Rattle.schema.proofs.leaves.greatest_definition.Given as goal

-- the level so far, and that of the rest, are that of all
abbrev pub invariant-loop-step : goal.invariant-loop-step
invariant-loop-step l = record {
  all : l.level + greatest_definition (map step_view (drop l.step-index l.steps)) ≡ greatest_definition (map step_view l.steps);
  small : l.level ≤ l.step-index;
}
