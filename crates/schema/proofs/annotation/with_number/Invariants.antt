use Rattle.std.proofs.Common.{◌≡◌, drop}
use Rattle.schema.specs.Annotations.{number_of, numbered}
use Rattle.schema.proofs.annotation.with_number.Given as goal

-- what is left of the table gives the answer
abbrev pub invariant-loop-converted : goal.invariant-loop-converted
invariant-loop-converted l = numbered number_of l.number (drop l.converted-index l.types) ≡ numbered number_of l.number l.types
