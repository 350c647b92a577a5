use Rattle.std.proofs.Common.{◌≡◌, ◌++◌, take, drop}
use Rattle.schema.specs.Borrowed.{value_ref_view}
use Rattle.filter.specs.Test.{ands_view}
use Rattle.filter.specs.Verdicts.{verdicts_view}
use Rattle.filter.specs.inner.Judging.{renewed, judged_terms, judged}
use Rattle.filter.proofs.judging.look_in_all.Given as goal

abbrev pub invariant-loop-i : goal.invariant-loop-i
invariant-loop-i l =
    take l.i (verdicts_view l.verdicts) ++ renewed (judged_terms l.leaf (value_ref_view l.value)) (ands_view (drop l.i l.ands)) (drop l.i (verdicts_view l.verdicts))
    ≡ judged l.leaf (value_ref_view l.value) (ands_view l.ands) (verdicts_view l.fn.verdicts)
