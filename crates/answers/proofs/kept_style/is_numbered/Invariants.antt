use Rattle.std.proofs.Common.{◌≡◌, drop, nat_eq}
use Rattle.std.specs.List.{list_any}
use Rattle.answers.proofs.kept_style.is_numbered.Given as goal

abbrev pub invariant-loop-number : goal.invariant-loop-number
invariant-loop-number l = list_any (nat_eq l.group.number) (drop l.number-index l.numbers) ≡ list_any (nat_eq l.group.number) l.numbers
