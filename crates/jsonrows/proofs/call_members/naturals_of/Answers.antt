use Rattle.std.proofs.Common.{◌≡◌, ℕ, Ok, Err, Result, List, subst, refl}
use Rattle.std.specs.Prelude.{IfOk}
use Rattle.bits.specs.declared.refusal.Refusal.{Refusal}
use Rattle.bits.specs.Refusals.{RefusedOnly}
use Rattle.filter.specs.Terms.{each_of}
use Rattle.jsonrows.specs.Calls.{natural_of, naturals_of}
use Rattle.jsonrows.proofs.Operands.{of_array}
use Rattle.jsonrows.proofs.call_members.naturals_of.Goals as goal

pub returns-in-Array-clause-made : goal.returns-in-Array-clause-made
returns-in-Array-clause-made c =
    let same = of_array naturals_of (each_of natural_of) c.args.json.now c.in-Array.items c.as_slice.result.now (λ ds. refl) c.in-Array.is c.as_slice.ensures.value in
    subst (λ (q : Result (List ℕ) Refusal). IfOk c.naturals_in.result (λ x. q ≡ Ok x.items)) same c.naturals_in.ensures.made

pub returns-in-Array-clause-which : goal.returns-in-Array-clause-which
returns-in-Array-clause-which c =
    let same = of_array naturals_of (each_of natural_of) c.args.json.now c.in-Array.items c.as_slice.result.now (λ ds. refl) c.in-Array.is c.as_slice.ensures.value in
    subst (λ (q : Result (List ℕ) Refusal). RefusedOnly (λ e. q ≡ Err e) c.naturals_in.result) same c.naturals_in.ensures.which
