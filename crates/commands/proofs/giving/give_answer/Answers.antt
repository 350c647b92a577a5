use Rattle.std.proofs.Common.{ℕ, List, sym, subst}
use Rattle.std.specs.Borrow.{Bor}
use Rattle.dataset_words.specs.declared.call.Question.{Question}
use Rattle.answers.specs.Making.{lent_text}
use Rattle.commands.specs.Tasks.{lent_texts, columns_named, GivesQuery, GivesAnswer}
use Rattle.commands.proofs.giving.give_answer.Goals as goal

pub returns-in-Query-clause-gives : goal.returns-in-Query-clause-gives
returns-in-Query-clause-gives g c =
    let state = g.D.Disk.state in
    let old = c.args.store.now in
    let new = c.give_query.new.store in
    let options = c.args.options.now in
    let was = g.K.FileSink.taken c.args.sink.now in
    let is = g.K.FileSink.taken c.give_query.new.sink in
    let result = c.give_query.result in
    subst (λ (q : Question). GivesAnswer state c.args.texts old new q options c.args.most was is result) (sym c.in-Query.is)
    (subst (λ (names : List (Bor (List ℕ))). GivesQuery state c.args.texts old new (lent_text c.in-Query.filter) (columns_named (lent_texts names)) c.in-Query.limit options c.args.most was is result)
    c.as_slice-names.ensures.value c.give_query.ensures.gives)
