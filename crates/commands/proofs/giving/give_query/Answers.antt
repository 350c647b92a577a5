use Rattle.std.proofs.Common.{◌≡◌, Err, refl, sym, subst}
use Rattle.vault.proofs.Chained.{refused}
use Rattle.bits.specs.declared.refusal.Refusal.{Refusal}
use Rattle.table.specs.Cursors.{Columns}
use Rattle.answers.specs.Making.{lent_text}
use Rattle.commands.specs.Tasks.{lent_texts, columns_named, GivesQuery}
use Rattle.commands.proofs.TasksMade.{out_of_memory, named_so}
use Rattle.commands.proofs.giving.give_query.Goals as goal

pub returns-in_err-names-clause-gives : goal.returns-in_err-names-clause-gives
returns-in_err-names-clause-gives g c =
    let state = g.D.Disk.state in
    let old = c.args.store.now in
    let held = g.K.FileSink.taken c.args.sink.now in
    let columns = columns_named (lent_texts c.args.columns.now) in
    refused (λ r. GivesQuery state c.args.texts old old (lent_text c.args.filter) columns c.args.limit c.args.options.now c.args.most held held r) c.from_residual.result c.in_err-names.field-0.0 c.from_residual.ensures.1
    (subst (λ (e : Refusal). GivesQuery state c.args.texts old old (lent_text c.args.filter) columns c.args.limit c.args.options.now c.args.most held held (Err e)) (sym c.in_err-names.ensures.memory)
    (out_of_memory state c.args.texts old (lent_text c.args.filter) _ (held ≡ held) refl))

pub returns-clause-gives : goal.returns-clause-gives
returns-clause-gives g c =
    let named = named_so c.columns_named-wanted.result c.as_slice.result.now c.in_ok-names.names.items (lent_texts c.args.columns.now) c.columns_named-wanted.ensures c.as_slice.ensures.value c.in_ok-names.ensures.same in
    subst (λ (cs : Columns). GivesQuery g.D.Disk.state c.args.texts c.args.store.now c.query_files.new.store (lent_text c.args.filter) cs c.args.limit c.args.options.now c.args.most
    (g.K.FileSink.taken c.args.sink.now) (g.K.FileSink.taken c.query_files.new.sink) c.query_files.result) named c.query_files.ensures.gives
