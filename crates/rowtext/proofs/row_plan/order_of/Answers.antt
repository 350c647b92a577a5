use Rattle.std.proofs.Common.{◌≡◌, true, false, length, refl, ap, sym, ◌∙◌}
use Rattle.rowtext.specs.inner.Slots.{is_in_order}
use Rattle.rowtext.proofs.RowPlans.{order_tested}
use Rattle.rowtext.proofs.row_plan.order_of.Goals as goal

pub returns-then-is_in_order : goal.returns-then-is_in_order
returns-then-is_in_order c =
    let n = length c.args.fields.now in
    let os = c.in_ok-indices.indices.items in
    let is : is_in_order os n ≡ true = ap (λ xs. is_in_order xs n) (sym c.as_slice.ensures.value) ∙ sym c.is_in_order.ensures ∙ c.if-is_in_order.true in
    order_tested c.args.fields.now os n true c.in_ok-indices.ensures refl is

pub returns-else-is_in_order : goal.returns-else-is_in_order
returns-else-is_in_order c =
    let n = length c.args.fields.now in
    let os = c.in_ok-indices.indices.items in
    let is : is_in_order os n ≡ false = ap (λ xs. is_in_order xs n) (sym c.as_slice.ensures.value) ∙ sym c.is_in_order.ensures ∙ c.if-is_in_order.false in
    order_tested c.args.fields.now os n false c.in_ok-indices.ensures refl is
