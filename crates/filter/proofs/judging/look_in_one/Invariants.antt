use Rattle.std.proofs.Common.{◌≡◌, ◌++◌, take, drop, map}
use Rattle.schema.specs.Borrowed.{value_ref_view}
use Rattle.filter.specs.Test.{test_view}
use Rattle.filter.specs.inner.Judging.{renewed, verdict, judged_terms}
use Rattle.filter.proofs.judging.look_in_one.Given as goal

abbrev pub invariant-loop-i : goal.invariant-loop-i
invariant-loop-i l =
    take l.i l.verdicts.items ++ renewed (verdict l.leaf (value_ref_view l.value)) (map test_view (drop l.i l.terms)) (drop l.i l.verdicts.items)
    ≡ judged_terms l.leaf (value_ref_view l.value) (map test_view l.terms) l.fn.verdicts.items
