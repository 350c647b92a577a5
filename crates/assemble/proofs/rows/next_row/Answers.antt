use Rattle.std.proofs.Common.{◌≡◌, [], Bool, Ok, sym, subst}
use Rattle.schema.specs.Values.{ValueTrees}
use Rattle.schema.specs.Views.{row_view}
use Rattle.assemble.specs.RowsOf.{NextRowTo, IsNextRow}
use Rattle.assemble.specs.inner.Building.{builder_shows}
use Rattle.assemble.proofs.rows.next_row.Goals as goal

pub returns-then-branch : goal.returns-then-branch
returns-then-branch g c =
    let S = g.S.EntrySource.stands in
    let fs = c.args.schema.now in
    let old = c.args.sources.now in
    let new = c.next_row_to.new.sources in
    let from = c.in_ok-builder.builder in
    let to = c.next_row_to.new.sink in
    let found = subst (λ (b : Bool). NextRowTo S g.S.EntrySource.refused g.S.EntrySource.cause builder_shows fs old new from to (Ok b)) c.if-branch.true c.in_ok-next_row_to.ensures.row in
    let row : ValueTrees = found.1.0 in
    let built : row ≡ row_view c.into_row.result = sym (c.into_row.ensures.row row (found.1.1.1 [] c.in_ok-builder.ensures.empty)) in
    record { row = (found.0, subst (IsNextRow S fs old new) built found.1.1.0); causes_stay = c.next_row_to.ensures.causes_stay }
