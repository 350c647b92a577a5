use Rattle.std.proofs.Common.{◌≤◌, ℕ, suc, length, take, ap, sym, ◌∙◌, arith, add-one}
use Rattle.std.proofs.lemmas.List.{map_push, take_all}
use Rattle.schema.specs.Stripe.{columns, leaves_of}
use Rattle.schema.specs.Views.{column_view, columns_view}
use Rattle.shred.specs.Buffer.{schema_of}
use Rattle.table_jobs.proofs.RowsOfColumns.{as_many_columns, one_column}
use Rattle.table_jobs.proofs.rests.columns_of.Goals as goal

pub loop-leaf-init : goal.loop-leaf-init
loop-leaf-init c = λ held known. ap columns_view c.in_ok-columns.ensures.items

pub loop-leaf-preserved : goal.loop-leaf-preserved
loop-leaf-preserved c = λ held known.
    let fs = schema_of c.args.buffer.now in
    let all = columns fs held in
    let at = c.loop-leaf in
    let many = as_many_columns fs held c.leaves-leaves.result.now (c.leaves-leaves.ensures.leaves_are ∙ ap leaves_of c.schema.ensures) in
    let within : suc at.leaf ≤ length all = omega (arith, many, c.loop-leaf-test.true) in
    ap columns_view c.in_ok-push.ensures.items ∙ map_push column_view at.columns.items c.in_ok-column.column
    ∙ one_column all at.leaf (columns_view at.columns.items) (column_view c.in_ok-column.column) within (at.invariant held known) (c.in_ok-column.ensures.is held known)
    ∙ ap (λ (n : ℕ). take n all) (sym (add-one at.leaf))

pub returns-clause-are : goal.returns-clause-are
returns-clause-are c = λ held known.
    let fs = schema_of c.args.buffer.now in
    let all = columns fs held in
    let at = c.loop-leaf in
    let many = as_many_columns fs held c.leaves-leaves.result.now (c.leaves-leaves.ensures.leaves_are ∙ ap leaves_of c.schema.ensures) in
    at.invariant held known ∙ take_all at.leaf all (omega (arith, many, c.loop-leaf-test.false))
