use Rattle.std.proofs.Common.{◌≡◌, ◌∙◌, Some, None, subst}
use Rattle.std.proofs.lemmas.Option.{same_Some}
use Rattle.manifest.specs.Groups.{Group, group_view}
use Rattle.upkeep.specs.Totals.{CountsOneMore}
use Rattle.std.specs.Prelude.{IfOk}
use Rattle.upkeep.proofs.counting.Totals.with_at.Goals as goal

pub returns-in-Some-clause-counts : goal.returns-in-Some-clause-counts
returns-in-Some-clause-counts c = λ g at.
    let same = same_Some (group_view c.in-Some.group.now) g (c.in-Some.ensures ∙ at) in
    subst (λ (h : Group). IfOk c.with.result (CountsOneMore c.args.self h)) same c.with.ensures.counts

pub returns-in-None-clause-counts : goal.returns-in-None-clause-counts
returns-in-None-clause-counts c = λ g at. let none : None ≡ Some g = c.in-None.ensures ∙ at in absurd (cc none)
