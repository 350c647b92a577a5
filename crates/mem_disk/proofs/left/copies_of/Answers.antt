use Rattle.std.proofs.Common.{refl, ◌∙◌}
use Rattle.mem_disk.specs.declared.node.Node.{Node}
use Rattle.mem_disk.specs.Left.{IsCopy}
use Rattle.mem_disk.proofs.Leaving.{each_more}
use Rattle.mem_disk.proofs.left.copies_of.Goals as goal

pub loop-node-preserved : goal.loop-node-preserved
loop-node-preserved c =
    let was = c.node-item.result in
    let made : Node = record { bytes = c.in_ok-from_slice.field-0; synced = was.synced; doubted = was.doubted } in
    let copy : IsCopy was made = record { bytes = c.in_ok-from_slice.ensures.items ∙ c.deref.ensures.value; synced = refl; doubted = refl } in
    each_more IsCopy c.args.nodes.now c.loop-node.node-index was c.loop-node.copies.items c.push.new.self.items made c.loop-node-test.true c.node-item.is c.loop-node.invariant copy c.in_ok-push.ensures.items
