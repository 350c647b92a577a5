use Rattle.std.proofs.Common.{◌≡◌, ◌<◌, List, length, get_or, arith, ap, ◌∙◌}
use Rattle.mem_disk.specs.declared.name.Name.{Name}
use Rattle.mem_disk.specs.Left.{IsLeft, left_in}
use Rattle.mem_disk.proofs.Leaving.{each_more}
use Rattle.mem_disk.proofs.left.left_names.Goals as goal

pub loop-name-preserved : goal.loop-name-preserved
loop-name-preserved c =
    let names = c.args.picked.now.list.items in
    let was = c.name-item.result in
    let is : was ≡ get_or names c.loop-name.name-index was = c.name-item.is ∙ ap (λ (xs : List Name). get_or xs c.loop-name.name-index was) c.deref-name-items.ensures.value in
    let lt : c.loop-name.name-index < length names = let less = c.loop-name-test.true in let long = ap length c.deref-name-items.ensures.value in omega (arith, less, long) in
    let made : Name = record { path = c.in_ok-from_str.field-0; now = c.left_at.result; had = c.new.result } in
    let left : IsLeft (left_in names) was made = record {
      path = c.in_ok-from_str.ensures.ok ∙ c.deref.ensures;
      now = c.left_at.ensures ∙ ap (left_in names) c.deref-in-loop-name.ensures;
      had = c.new.ensures.items;
    } in
    each_more (IsLeft (left_in names)) names c.loop-name.name-index was c.loop-name.left.items c.push.new.self.items made lt is c.loop-name.invariant left c.in_ok-push.ensures.items
