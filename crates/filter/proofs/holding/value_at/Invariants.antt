use Rattle.std.proofs.Common.{◌≡◌, drop}
use Rattle.schema.specs.Values.{view}
use Rattle.filter.specs.Test.{way_view}
use Rattle.filter.specs.Test.{value_at}
use Rattle.filter.proofs.holding.value_at.Given as goal

-- the rest of the way, from the value that was reached, ends where the whole way does
abbrev pub invariant-loop-step : goal.invariant-loop-step
invariant-loop-step l = value_at (way_view (drop l.step-index l.steps)) (view l.value) ≡ value_at (way_view l.steps) (view l.fn.value)
