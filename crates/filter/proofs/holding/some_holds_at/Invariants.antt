use Rattle.std.proofs.Common.{◌≡◌, drop}
use Rattle.std.specs.List.{list_all, list_any}
use Rattle.schema.specs.Values.{views, member_at}
use Rattle.filter.specs.Test.{ands_view}
use Rattle.filter.specs.Deciding.{holds}
use Rattle.filter.proofs.holding.some_holds_at.Given as goal

abbrev pub invariant-loop-terms : goal.invariant-loop-terms
invariant-loop-terms l = list_any (λ terms. list_all (λ t. holds t (member_at t.leaf (views l.leaves))) terms) (ands_view (drop l.terms-index l.ands)) ≡ list_any (λ terms. list_all (λ t. holds t (member_at t.leaf (views l.leaves))) terms) (ands_view l.ands)
