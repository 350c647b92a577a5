use Rattle.std.proofs.Common.{◌≡◌, drop}
use Rattle.std.specs.Ordering.{int_eq}
use Rattle.std.specs.List.{list_any}
use Rattle.answers.proofs.kept_style.is_among.Given as goal

abbrev pub invariant-loop-found : goal.invariant-loop-found
invariant-loop-found l = list_any (int_eq l.number) (drop l.found-index l.numbers) ≡ list_any (int_eq l.number) l.numbers
