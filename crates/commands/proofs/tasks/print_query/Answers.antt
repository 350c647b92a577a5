use Rattle.std.proofs.Common.{◌≡◌, ℕ, Option, Some, None, Err, refl, sym, subst}
use Rattle.vault.proofs.Chained.{refused}
use Rattle.bits.specs.declared.refusal.Refusal.{Refusal}
use Rattle.table.specs.Cursors.{Columns}
use Rattle.answers.specs.Making.{lent_text}
use Rattle.commands.specs.Tasks.{lent_texts, columns_named, PrintsQuery}
use Rattle.commands.proofs.TasksMade.{out_of_memory, named_so}
use Rattle.commands.proofs.tasks.print_query.Goals as goal

pub returns-in_err-names-clause-prints : goal.returns-in_err-names-clause-prints
returns-in_err-names-clause-prints g c =
    let state = g.D.Disk.state in
    let old = c.args.store.now in
    let held = g.W.Write.contents c.args.out.now in
    let columns = columns_named (lent_texts c.args.columns.now) in
    refused (λ r. PrintsQuery state c.args.texts old old (lent_text c.args.filter) columns c.args.limit held held r) c.from_residual.result c.in_err-names.field-0.0 c.from_residual.ensures.1
    (subst (λ (e : Refusal). PrintsQuery state c.args.texts old old (lent_text c.args.filter) columns c.args.limit held held (Err e)) (sym c.in_err-names.ensures.memory)
    (out_of_memory state c.args.texts old (lent_text c.args.filter) _ (held ≡ held) refl))

pub returns-in-Some-clause-prints : goal.returns-in-Some-clause-prints
returns-in-Some-clause-prints g c =
    let state = g.D.Disk.state in
    let old = c.args.store.now in
    let new = c.print_first_rows.new.store in
    let asked = lent_text c.args.filter in
    let before = g.W.Write.contents c.args.out.now in
    let after = g.W.Write.contents c.print_first_rows.new.out in
    let result = c.print_first_rows.result in
    let columns = columns_named (lent_texts c.args.columns.now) in
    let named = named_so c.columns_named-wanted.result c.as_slice.result.now c.in_ok-names.names.items (lent_texts c.args.columns.now) c.columns_named-wanted.ensures c.as_slice.ensures.value c.in_ok-names.ensures.same in
    subst (λ (limit : Option ℕ). PrintsQuery state c.args.texts old new asked columns limit before after result) (sym c.in-Some.is)
    (subst (λ (cs : Columns). PrintsQuery state c.args.texts old new asked cs (Some c.in-Some.limit) before after result) named c.print_first_rows.ensures.prints)

pub returns-clause-prints : goal.returns-clause-prints
returns-clause-prints g c =
    let state = g.D.Disk.state in
    let old = c.args.store.now in
    let new = c.print_rows.new.store in
    let asked = lent_text c.args.filter in
    let before = g.W.Write.contents c.args.out.now in
    let after = g.W.Write.contents c.print_rows.new.out in
    let result = c.print_rows.result in
    let columns = columns_named (lent_texts c.args.columns.now) in
    let named = named_so c.columns_named-wanted.result c.as_slice.result.now c.in_ok-names.names.items (lent_texts c.args.columns.now) c.columns_named-wanted.ensures c.as_slice.ensures.value c.in_ok-names.ensures.same in
    subst (λ (limit : Option ℕ). PrintsQuery state c.args.texts old new asked columns limit before after result) (sym c.in-None.is)
    (subst (λ (cs : Columns). PrintsQuery state c.args.texts old new asked cs None before after result) named c.print_rows.ensures.prints)
