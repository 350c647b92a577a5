use Rattle.std.proofs.Common.{refl, ap, true}
use Rattle.mem_disk.specs.declared.node.Node.{Node}
use Rattle.mem_disk.specs.declared.call.Call.TheVariants.{Doubt}
use Rattle.mem_disk.proofs.Keeping.{keeps_doubted}
use Rattle.mem_disk.proofs.held.Held.doubt.Goals as goal

pub invariant_of-self-2 : goal.invariant_of-self-2
invariant_of-self-2 c =
    let self = c.args.self.now in
    let was = c.index_mut-at.result.now in
    let v : Node = record { bytes = was.bytes; synced = was.synced; doubted = true } in
    let same = c.index_mut-at.ensures.value in
    record {
      kept = keeps_doubted self.names.list.items self.nodes.items self.calls.items self.kept c.args.node v was c.requires c.push.new.self.items (Doubt c.args.node)
          c.in_ok-push.ensures.items refl
          (ap (λ (x : Node). x.bytes.items) same)
          (ap (λ (x : Node). x.synced) same)
          refl;
      apart = self.apart;
    }
