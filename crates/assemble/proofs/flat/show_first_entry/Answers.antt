use Rattle.std.proofs.Common.{rules, [], ◌∷◌}
use Rattle.std.proofs.lemmas.Result.{on_ok_weaker}
use Rattle.schema.specs.Borrowed.{value_ref_view, entry_ref_view}
use Rattle.assemble.specs.Sources.{Precede}
use Rattle.assemble.proofs.FlatShown.{taken_first}
use Rattle.assemble.proofs.flat.show_first_entry.Goals as goal

pub returns-in-Some-value-clause-shows : goal.returns-in-Some-value-clause-shows
returns-in-Some-value-clause-shows g c =
    let S = g.S.EntrySource.stands in
    let e = c.in-Some.entry in
    let v = c.in-Some-value.value in
    let first : Precede (entry_ref_view e ∷ []) (S c.args.source.now) (S c.next.follows.lender-at-none) = search rules in
    on_ok_weaker c.show.result
    (λ shown. (value_ref_view v, (taken_first e v (S c.args.source.now) (S c.next.follows.lender-at-none) c.if-entry-eq0.true c.if-entry-eq0-2.true c.in-Some-value.is first, shown)))
    c.show.ensures.shown
