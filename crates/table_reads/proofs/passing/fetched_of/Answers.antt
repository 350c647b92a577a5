use Rattle.std.proofs.Common.{Option, Result, subst}
use Rattle.bits.specs.declared.refusal.Refusal.{Refusal}
use Rattle.bits.specs.Refusals.{RefusedMemoryOnly}
use Rattle.schema.specs.Views.{rows_view}
use Rattle.vault.proofs.Chained.{refused}
use Rattle.scan.specs.declared.group_rows.GroupRows.{GroupRows}
use Rattle.table.specs.declared.answer.Fetched.{Fetched}
use Rattle.table_reads.specs.Passing.{AreReached}
use Rattle.table_reads.proofs.ShownRows.{made_end, made_batch}
use Rattle.table_reads.proofs.passing.fetched_of.Goals as goal

pub returns-in-None-clause-made : goal.returns-in-None-clause-made
returns-in-None-clause-made c out are = made_end c.args.places.now c.args.rows.now out c.in-None.is are

pub returns-in_err-rows-in-Some-clause-which : goal.returns-in_err-rows-in-Some-clause-which
returns-in_err-rows-in-Some-clause-which c out are =
    refused (λ (r : Result Fetched Refusal). RefusedMemoryOnly r) c.from_residual.result c.in_err-rows-in-Some.field-0.0 c.from_residual.ensures.1
    (c.in_err-rows-in-Some.ensures.only out (subst (λ (o : Option GroupRows). AreReached o out) c.in-Some.is are).0)

pub returns-in_ok-places-in-Some-clause-made : goal.returns-in_ok-places-in-Some-clause-made
returns-in_ok-places-in-Some-clause-made c out are =
    made_batch c.args.places.now c.in_ok-places-in-Some.places.items c.args.rows.now c.in-Some.held (rows_view c.in_ok-rows-in-Some.rows.items) c.in-Some.is c.in_ok-rows-in-Some.ensures.rows_are c.in_ok-places-in-Some.ensures.items out are
