use Rattle.std.proofs.Common.{◌<◌, ℕ, length, List, sym, ap, subst, ◌∙◌, arith}
use Rattle.bits.proofs.Passing.{passes}
use Rattle.bits.specs.Refusals.{HasCause}
use Rattle.schema.specs.Stripe.{Leaf}
use Rattle.schema.specs.Cutting.{cut_to}
use Rattle.columns.specs.inner.Among.{leaves_among}
use Rattle.columns.proofs.ColumnLeaves.{columns_cut, no_columns, are_places, cut_remembers}
use Rattle.columns.proofs.at_places.columns_at.Goals as goal

pub returns-then-is_empty-clause-columns : goal.returns-then-is_empty-clause-columns
returns-then-is_empty-clause-columns c =
    let fs = c.args.schema.now in
    let places = c.args.places.now in
    let among = c.in_ok-leaves.ensures.among ∙ ap (λ (ls : List Leaf). leaves_among places 0 ls) c.leaves.ensures.leaves_are in
    no_columns places fs c.in_ok-leaves.leaves.items c.leaves.ensures.valid among (grind (arith, c.is_empty.ensures, c.if-is_empty.true, c.in_ok-leaves.leaves.ok))

pub returns-in_err-columns-clause-which : goal.returns-in_err-columns-clause-which
returns-in_err-columns-clause-which c =
    let fs = c.args.schema.now in
    let places = c.args.places.now in
    let among = c.in_ok-leaves.ensures.among ∙ ap (λ (ls : List Leaf). leaves_among places 0 ls) c.leaves.ensures.leaves_are in
    let some : 0 < length c.in_ok-leaves.leaves.items = grind (arith, c.is_empty.ensures, c.if-is_empty.false, c.in_ok-leaves.leaves.ok) in
    passes (HasCause (λ _. ⊥)) c.from_residual-in_err-columns.result c.in_err-columns.field-0.0 c.from_residual-in_err-columns.ensures.1
    (cut_remembers c.as_slice.result.now fs c.in_err-columns.field-0.0 (are_places places fs c.as_slice.result.now (c.as_slice.ensures.value ∙ among) (subst (λ (ls : List ℕ). 0 < length ls) (sym c.as_slice.ensures.value) some)) c.in_err-columns.ensures.which)

pub returns-clause-columns : goal.returns-clause-columns
returns-clause-columns c =
    let fs = c.args.schema.now in
    let places = c.args.places.now in
    let among = c.in_ok-leaves.ensures.among ∙ ap (λ (ls : List Leaf). leaves_among places 0 ls) c.leaves.ensures.leaves_are in
    c.in_ok-columns.ensures.stands.is ∙ ap (λ (ls : List ℕ). cut_to ls fs) (c.as_slice.ensures.value ∙ among) ∙ columns_cut places fs c.leaves.ensures.valid
