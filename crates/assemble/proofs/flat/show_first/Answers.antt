use Rattle.std.proofs.Common.{rules, Some}
use Rattle.std.proofs.lemmas.Result.{on_ok_weaker}
use Rattle.schema.specs.Borrowed.{value_ref_view}
use Rattle.schema.specs.Stripe.{entry}
use Rattle.assemble.specs.Sources.{Precede}
use Rattle.assemble.proofs.flat.show_first.Goals as goal

pub returns-in-Some-clause-shows : goal.returns-in-Some-clause-shows
returns-in-Some-clause-shows g c =
    let S = g.S.EntrySource.stands in
    let v = value_ref_view c.in-Some.value in
    let first : Precede (entry 0 0 (Some v)) (S c.args.source.now) (S c.next_value.follows.lender-at-none) = search rules in
    on_ok_weaker c.show.result (λ shown. (v, (first, shown))) c.show.ensures.shown
