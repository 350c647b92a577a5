use Rattle.std.proofs.Common.{rules, refl, None, inr}
use Rattle.std.proofs.lemmas.Result.{on_ok_weaker}
use Rattle.schema.specs.Values.{null}
use Rattle.schema.specs.Stripe.{entry}
use Rattle.assemble.specs.Sources.{Precede}
use Rattle.assemble.proofs.reading.read_optional.Goals as goal

pub returns-in-None-clause-reads : goal.returns-in-None-clause-reads
returns-in-None-clause-reads g c =
    let S = g.S.EntrySource.stands in
    let first : Precede (entry c.args.place.repetition c.args.place.definition None) (S c.args.source.now) (S c.next.follows.lender-at-none) = search rules in
    on_ok_weaker c.show-in-None.result (λ shown. (null, (inr (refl, first), shown))) c.show-in-None.ensures.shown
