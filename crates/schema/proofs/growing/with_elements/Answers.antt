use Rattle.std.proofs.Common.{◌≡◌, ◌+◌, suc, length, ap, arith}
use Rattle.schema.specs.Shape.{count}
use Rattle.schema.specs.Elements.{elements_view}
use Rattle.schema.proofs.Few.{count_leaves, count-views}
use Rattle.schema.proofs.Relisted.{longer_listed}
use Rattle.schema.proofs.growing.with_elements.Goals as goal

pub root_element-requires : goal.root_element-requires
root_element-requires c =
    let many = count_leaves 0 c.args.schema.now c.leaves.ensures.valid.1 in
    let size = count-views c.fields.result.now in
    let same = ap count c.fields.ensures in
    let few = c.leaves.ensures.within.leaves in
    omega (arith, many, size, same, few)

pub returns-clause-listed : goal.returns-clause-listed
returns-clause-listed c =
    let fs = c.args.schema.now in
    let size = count-views c.fields.result.now in
    let same = ap count c.fields.ensures in
    longer_listed c.push_copies-2.new.out.items c.push_copies.new.out.items c.push.new.self.items c.new-longer.result.items c.in_ok-root.root (elements_view c.listing.result.now) (elements_view c.args.elements.now) fs (length c.fields.result.now + 1)
    c.new-longer.ensures.items c.in_ok-push.ensures.items c.in_ok-root.ensures.element_is (let n : length c.fields.result.now + 1 ≡ suc (count fs) = omega (arith, size, same) in n) c.listing.ensures c.in_ok-push_copies.ensures.adds c.in_ok-push_copies-2.ensures.adds
