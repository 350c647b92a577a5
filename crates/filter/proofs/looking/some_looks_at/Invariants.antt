use Rattle.std.proofs.Common.{◌≡◌, drop}
use Rattle.filter.specs.Test.{ands_view, looks_at}
use Rattle.filter.proofs.looking.some_looks_at.Given as goal

abbrev pub invariant-loop-terms : goal.invariant-loop-terms
invariant-loop-terms l = looks_at (ands_view (drop l.terms-index l.ands)) l.leaf ≡ looks_at (ands_view l.ands) l.leaf
