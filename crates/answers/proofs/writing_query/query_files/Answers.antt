use Rattle.std.proofs.Common.{◌≡◌, List, Vec, Global, option_map, refl, ap, subst, ◌∙◌}
use Rattle.vault.proofs.Chained.{refused as passed}
use Rattle.schema.specs.Shape.{Fields}
use Rattle.filter.specs.Terms.{terms_view}
use Rattle.filter.specs.declared.term.Term.{Term}
use Rattle.table.specs.Views.{names_view}
use Rattle.answers.specs.Querying.{ReadsFrom, read, not_read}
use Rattle.answers.specs.QueryFile.{GotQueryFiles, wanted_fields}
use Rattle.answers.specs.inner.Fetched.{GivesFiles}
use Rattle.answers.proofs.Batched.{nothing_read}
use Rattle.answers.proofs.OkThen.{ok_of}
use Rattle.answers.proofs.Selected.{query_fits}
use Rattle.answers.proofs.writing_query.query_files.Goals as goal

pub returns-in_err-terms-clause-gives : goal.returns-in_err-terms-clause-gives
returns-in_err-terms-clause-gives g c = λ honest s stands.
    let old = c.args.store.now in
    let was = g.S.FileSink.taken c.args.sink.now in
    let e = c.in_err-terms.field-0.0 in
    passed (λ r. ReadsFrom g.D.Disk.state c.args.texts old old (option_map (λ t. t.now) c.args.filter) (λ terms. GotQueryFiles c.args.options.now terms (names_view c.args.columns) c.args.limit c.args.most s.table was was) (was ≡ was) r s)
    c.from_residual.result e c.from_residual.ensures.1 (not_read e (c.in_err-terms.ensures.which s stands) refl refl refl)

pub returns-in_err-schema-clause-gives : goal.returns-in_err-schema-clause-gives
returns-in_err-schema-clause-gives g c = λ honest s stands.
    let old = c.args.store.now in
    let was = g.S.FileSink.taken c.args.sink.now in
    let terms = terms_view c.in_ok-terms.terms.items in
    let e = c.in_err-schema.field-0.0 in
    passed (λ r. ReadsFrom g.D.Disk.state c.args.texts old old (option_map (λ t. t.now) c.args.filter) (λ ts. GotQueryFiles c.args.options.now ts (names_view c.args.columns) c.args.limit c.args.most s.table was was) (was ≡ was) r s)
    c.from_residual-in_err-schema.result e c.from_residual-in_err-schema.ensures.1
    (read terms (c.in_ok-terms.ensures.stands s stands) (nothing_read g.D.Disk.state old s) tt)

pub returns-clause-gives : goal.returns-clause-gives
returns-clause-gives g c = λ honest s stands.
    let state = g.D.Disk.state in
    let options = c.args.options.now in
    let terms = terms_view c.in_ok-terms.terms.items in
    let columns = names_view c.args.columns in
    let limit = c.args.limit in
    let most = c.args.most in
    let new = c.give_files-given.new.store in
    let was = g.S.FileSink.taken c.args.sink.now in
    let is = g.S.FileSink.taken c.give_files-given.new.sink in
    let fs : c.in_ok-schema.schema ≡ wanted_fields columns s.table.schema = c.in_ok-schema.ensures.wanted ∙ ap (wanted_fields columns) (c.schema.ensures s stands) in
    let gives = c.give_files-given.ensures.gives honest s stands in
    let told = subst (λ (ts : List (Vec Term Global)). GivesFiles state c.args.store.now new options c.in_ok-schema.schema (terms_view ts) columns limit most was is c.give_files-given.result s) c.as_slice.ensures.value gives in
    let wanted = subst (λ (f : Fields). GivesFiles state c.args.store.now new options f terms columns limit most was is c.give_files-given.result s) fs told in
    read terms (c.in_ok-terms.ensures.stands s stands) wanted.reads (ok_of c.give_files-given.result wanted.got (λ so. so (query_fits terms columns s.table stands.shows.valid)))
