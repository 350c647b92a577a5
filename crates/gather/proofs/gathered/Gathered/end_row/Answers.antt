use Rattle.std.proofs.Common.{◌≡◌, true, refl, sym, subst, ◌∙◌}
use Rattle.schema.specs.Shape.{Fields}
use Rattle.schema.specs.Fits.{fits_each}
use Rattle.gather.specs.GatheredRows.{columns_of, schema_of}
use Rattle.gather.proofs.Gathering.{shown_row, shown_schema, row_gathered}
use Rattle.gather.proofs.gathered.Gathered.end_row.Goals as goal

pub returns-clause-stands : goal.returns-clause-stands
returns-clause-stands c = λ fs rows values shown fit.
    let g = c.args.self.now in
    let so = shown_row g fs rows values shown in
    let fits = subst (λ (gs : Fields). fits_each gs values ≡ true) (shown_schema g fs rows values shown) fit in
    let table = so.gathered.table in
    let cut = c.in_ok-end_row.ensures.cut (columns_of g) (schema_of g) values table.keyed (table.besides ∙ sym g.alike) fits so.row in
    row_gathered g _ rows values refl refl c.take.ensures.same_schema (c.restart.ensures.same_parts ∙ c.end_row.ensures.same_parts) fits so (c.in_ok-take.ensures.taken rows values so.gathered.buffers cut)
    (λ columns many. c.restart.ensures.begins columns (c.end_row.ensures.same_parts ∙ many))

pub returns-clause-of : goal.returns-clause-of
returns-clause-of c = λ fs rows values shown. sym (shown_schema c.args.self.now fs rows values shown)

pub returns-in_err-end_row-clause-of : goal.returns-in_err-end_row-clause-of
returns-in_err-end_row-clause-of c = λ fs rows values shown. sym (shown_schema c.args.self.now fs rows values shown)

pub returns-in_err-take-clause-of : goal.returns-in_err-take-clause-of
returns-in_err-take-clause-of c = λ fs rows values shown. sym (shown_schema c.args.self.now fs rows values shown)
