use Rattle.std.proofs.Common.{◌≡◌, None, refl, sym, ◌∙◌}
use Rattle.std.proofs.lemmas.Bool.{false≢true}
use Rattle.answers.proofs.OkThen.{ok_of}
use Rattle.answers.proofs.PartsGiven.{stays}
use Rattle.answers.proofs.part_writer.PartWriter.make_room.Goals as goal

pub returns-then-is_full-clause-goes_on : goal.returns-then-is_full-clause-goes_on
returns-then-is_full-clause-goes_on g c = ok_of c.end_file.result c.end_file.ensures.goes_on (λ goes from rows has.
    let full = c.is_full.ensures in
    let several : c.is_full.new.self.most ≡ None → ⊥ = λ none. false≢true (sym (full.single (sym full.kept.2 ∙ none)) ∙ c.if-is_full.true) in
    goes from rows several (full.same rows from _ (stays c.args.self.now _ (refl, refl, refl) from _ rows has c.in_ok-begin_row.ensures.same c.begin_row.ensures.same_schema c.begin_row.ensures.same_options)))

pub returns-else-is_full-clause-goes_on : goal.returns-else-is_full-clause-goes_on
returns-else-is_full-clause-goes_on g c = λ from rows has.
    c.is_full.ensures.same rows from _ (stays c.args.self.now _ (refl, refl, refl) from _ rows has c.in_ok-begin_row.ensures.same c.begin_row.ensures.same_schema c.begin_row.ensures.same_options)
