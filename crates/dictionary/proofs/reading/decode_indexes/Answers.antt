use Rattle.std.proofs.Common.{ℕ, ◌<◌, sym, subst, ◌∙◌}
use Rattle.std.specs.Prelude.{All}
use Rattle.std.proofs.lemmas.Bool.{false≢true}
use Rattle.dictionary.specs.IndexPages.{AreIndexesOf}
use Rattle.dictionary.proofs.Pages.{past_the_end}
use Rattle.dictionary.proofs.reading.decode_indexes.Goals as goal

pub returns-then-not-are_within-clause-only : goal.returns-then-not-are_within-clause-only
returns-then-not-are_within-clause-only c = λ fault.
    let is = c.in_ok-indexes.indexes.items in
    let are : AreIndexesOf c.in-Some.width.now c.in-Some.rest.now c.args.n is c.in_ok-indexes.used = subst (λ (w : ℕ). AreIndexesOf w c.in-Some.rest.now c.args.n is c.in_ok-indexes.used) c.from.ensures c.in_ok-indexes.ensures.stands in
    past_the_end c.args.size c.args.n c.in-Some.width.now c.in_ok-indexes.used c.args.bytes.now c.in-Some.rest.now is c.in-Some.ensures.cases.0 are
    (λ (all : All (λ i. i < c.args.size) is). false≢true (sym c.if-not-are_within.true ∙ c.are_within.ensures.1 (subst (All (λ i. i < c.args.size)) (sym c.deref.ensures.value) all)))
