use Rattle.std.proofs.Common.{◌≡◌, drop}
use Rattle.std.specs.List.{list_all, list_any}
use Rattle.schema.specs.Values.{views}
use Rattle.filter.specs.Test.{ands_view, value_of}
use Rattle.filter.specs.Deciding.{holds}
use Rattle.filter.proofs.holding.some_holds.Given as goal

abbrev pub invariant-loop-terms : goal.invariant-loop-terms
invariant-loop-terms l = list_any (λ terms. list_all (λ t. holds t (value_of t (views l.row))) terms) (ands_view (drop l.terms-index l.ands)) ≡ list_any (λ terms. list_all (λ t. holds t (value_of t (views l.row))) terms) (ands_view l.ands)
