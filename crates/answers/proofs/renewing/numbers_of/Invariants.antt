use Rattle.std.proofs.Common.{◌≡◌, map, take}
use Rattle.answers.proofs.renewing.numbers_of.Given as goal

-- the numbers of the groups so far
abbrev pub invariant-loop-group : goal.invariant-loop-group
invariant-loop-group l = l.numbers.items ≡ map (λ group. group.number) (take l.group-index l.groups)
