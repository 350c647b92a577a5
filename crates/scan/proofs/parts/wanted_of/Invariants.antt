use Rattle.std.proofs.Common.{◌≡◌, ◌-◌, ◌++◌}
use Rattle.schema.specs.Shape.{count}
use Rattle.scan.specs.inner.Parts.{wanted_from}
use Rattle.scan.proofs.parts.wanted_of.Given as goal

abbrev pub invariant-loop-place : goal.invariant-loop-place
invariant-loop-place l = l.wanted.items ++ wanted_from l.places l.place-counter (count l.schema - l.place-counter) ≡ wanted_from l.places 0 (count l.schema)
