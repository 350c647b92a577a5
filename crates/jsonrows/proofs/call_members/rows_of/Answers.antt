use Rattle.std.proofs.Common.{◌≡◌, Ok, Err, Result, List, subst, refl}
use Rattle.std.specs.Prelude.{IfOk}
use Rattle.bits.specs.declared.refusal.Refusal.{Refusal}
use Rattle.bits.specs.Refusals.{RefusedOnly}
use Rattle.schema.specs.Values.{ValueTrees}
use Rattle.schema.specs.Views.{rows_view}
use Rattle.filter.specs.Terms.{each_of}
use Rattle.jsonrows.specs.Calls.{row_in_as, rows_of_as}
use Rattle.jsonrows.proofs.Operands.{of_array}
use Rattle.jsonrows.proofs.call_members.rows_of.Goals as goal

pub returns-in-Array-clause-made : goal.returns-in-Array-clause-made
returns-in-Array-clause-made c =
    let same = of_array (rows_of_as c.args.texts c.args.schema.now) (each_of (row_in_as c.args.texts c.args.schema.now)) c.args.json.now c.in-Array.items c.as_slice.result.now (λ ds. refl) c.in-Array.is c.as_slice.ensures.value in
    subst (λ (q : Result (List ValueTrees) Refusal). IfOk c.rows_in.result (λ x. q ≡ Ok (rows_view x.items))) same c.rows_in.ensures.made

pub returns-in-Array-clause-which : goal.returns-in-Array-clause-which
returns-in-Array-clause-which c =
    let same = of_array (rows_of_as c.args.texts c.args.schema.now) (each_of (row_in_as c.args.texts c.args.schema.now)) c.args.json.now c.in-Array.items c.as_slice.result.now (λ ds. refl) c.in-Array.is c.as_slice.ensures.value in
    subst (λ (q : Result (List ValueTrees) Refusal). RefusedOnly (λ e. q ≡ Err e) c.rows_in.result) same c.rows_in.ensures.which
