use Rattle.std.proofs.Common.{◌∙◌, refl, ap, length}
use Rattle.mem_disk.specs.declared.node.Node.{Node}
use Rattle.mem_disk.specs.declared.call.Call.TheVariants.{Sync}
use Rattle.mem_disk.proofs.Keeping.{keeps_synced}
use Rattle.mem_disk.proofs.held.Held.sync.Goals as goal

pub invariant_of-self-2 : goal.invariant_of-self-2
invariant_of-self-2 c =
    let self = c.args.self.now in
    let was = c.index_mut-at.result.now in
    let same = c.index_mut-at.ensures.value in
    record {
      kept = keeps_synced self.names.list.items self.nodes.items self.calls.items self.kept c.args.node c.sync.new.self was c.requires c.push.new.self.items (Sync c.args.node)
          c.in_ok-push.ensures.items refl
          (ap (λ x. x.items) c.sync.ensures.bytes ∙ ap (λ (x : Node). x.bytes.items) same)
          (c.sync.ensures.synced ∙ ap (λ (x : Node). length x.bytes.items) same)
          (c.sync.ensures.doubted ∙ ap (λ (x : Node). x.doubted) same);
      apart = self.apart;
    }
