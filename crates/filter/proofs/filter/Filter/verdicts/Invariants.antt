use Rattle.std.proofs.Common.{◌≡◌, ◌++◌, drop}
use Rattle.schema.specs.Values.{views}
use Rattle.filter.specs.Test.{ands_view}
use Rattle.filter.specs.Verdicts.{verdicts_view, verdicts_of}
use Rattle.filter.proofs.filter.Filter.verdicts.Given as goal

abbrev pub invariant-loop-terms : goal.invariant-loop-terms
invariant-loop-terms l =
    verdicts_view l.ands.items ++ verdicts_of (ands_view (drop l.terms-index l.terms-items)) (views l.leaves)
    ≡ verdicts_of (ands_view l.terms-items) (views l.leaves)
