use Rattle.std.proofs.Common.{ℕ, List, sym, subst}
use Rattle.std.specs.Borrow.{Bor}
use Rattle.dataset_words.specs.declared.call.Question.{Question}
use Rattle.answers.specs.Making.{lent_text}
use Rattle.commands.specs.Tasks.{lent_texts, columns_named, PrintsQuery, PrintsAnswer}
use Rattle.commands.proofs.tasks.answer.Goals as goal

pub returns-in-Query-clause-prints : goal.returns-in-Query-clause-prints
returns-in-Query-clause-prints g c =
    let state = g.D.Disk.state in
    let old = c.args.store.now in
    let new = c.print_query.new.store in
    let before = g.W.Write.contents c.args.out.now in
    let after = g.W.Write.contents c.print_query.new.out in
    let result = c.print_query.result in
    subst (λ (q : Question). PrintsAnswer state c.args.texts old new q before after result) (sym c.in-Query.is)
    (subst (λ (names : List (Bor (List ℕ))). PrintsQuery state c.args.texts old new (lent_text c.in-Query.filter) (columns_named (lent_texts names)) c.in-Query.limit before after result)
    c.as_slice-names.ensures.value c.print_query.ensures.prints)
