use Rattle.std.proofs.Common.{◌≡◌, ◌∙◌, [], ap, sym, subst}
use Rattle.schema.specs.Shape.{Fields, no_fields}
use Rattle.table.specs.Views.{names_view}
use Rattle.rowtext.specs.Rows.{BeginsLineAs}
use Rattle.columns.specs.Columns.{fields_in}
use Rattle.answers.specs.QueryFile.{wanted_fields}
use Rattle.answers.proofs.Batched.{none_fetched}
use Rattle.answers.proofs.OkThen.{err_then}
use Rattle.answers.proofs.Selected.{are_wanted}
use Rattle.answers.proofs.querying.print_columns_of.Goals as goal

pub returns-in_err-places-clause-prints : goal.returns-in_err-places-clause-prints
returns-in_err-places-clause-prints g c = λ honest s stands. none_fetched g.D.Disk.state c.args.store.now c.args.cursor _ _ c.from_residual.result s stands (err_then _ c.from_residual.result c.in_err-places.field-0.0 c.from_residual.ensures.1)

pub returns-in_err-schema-clause-prints : goal.returns-in_err-schema-clause-prints
returns-in_err-schema-clause-prints g c = λ honest s stands.
    none_fetched g.D.Disk.state c.args.store.now c.args.cursor _ _ c.from_residual-in_err-schema.result s stands (err_then _ c.from_residual-in_err-schema.result c.in_err-schema.field-0.0 c.from_residual-in_err-schema.ensures.1)

pub returns-in_err-plan-in-Some-clause-prints : goal.returns-in_err-plan-in-Some-clause-prints
returns-in_err-plan-in-Some-clause-prints g c = λ honest s stands.
    none_fetched g.D.Disk.state c.args.store.now c.args.cursor _ _ c.from_residual-in_err-plan-in-Some.result s stands (err_then _ c.from_residual-in_err-plan-in-Some.result c.in_err-plan-in-Some.field-0.0 c.from_residual-in_err-plan-in-Some.ensures.1)

pub returns-in-Some-clause-prints : goal.returns-in-Some-clause-prints
returns-in-Some-clause-prints g c = λ honest s stands.
    let columns = names_view c.args.columns in
    let texts = c.args.texts in
    let fs = wanted_fields columns s.table.schema in
    let found = c.in_ok-schema.field-0 in
    let wanted = are_wanted columns found c.as_slice.result.now c.in_ok-places.places.items c.schema.result.now c.schema-2.result.now s.table.schema (c.schema.ensures s stands) (c.schema-2.ensures s stands) c.as_slice.ensures.value c.in_ok-places.ensures.made
    c.in_ok-schema.ensures.columns in
    let same : c.in-Some.schema ≡ fs = sym (ap fields_in c.in-Some.is) ∙ wanted in
    let begun = subst (λ (f : Fields). BeginsLineAs texts c.new.result f []) (c.in_ok-plan-in-Some.ensures.prints ∙ same) (c.new.ensures.begins_as texts c.in_ok-plan-in-Some.ensures.ready) in
    c.print_batches.ensures.prints texts fs begun honest s stands

pub returns-clause-prints : goal.returns-clause-prints
returns-clause-prints g c = λ honest s stands.
    let columns = names_view c.args.columns in
    let fs = wanted_fields columns s.table.schema in
    let found = c.in_ok-schema.field-0 in
    let wanted = are_wanted columns found c.as_slice.result.now c.in_ok-places.places.items c.schema.result.now c.schema-2.result.now s.table.schema (c.schema.ensures s stands) (c.schema-2.ensures s stands) c.as_slice.ensures.value c.in_ok-places.ensures.made
    c.in_ok-schema.ensures.columns in
    let none : no_fields ≡ fs = sym (ap fields_in c.in-None.is) ∙ wanted in
    c.print_batches-in-None.ensures.prints c.args.texts fs (sym none) honest s stands
