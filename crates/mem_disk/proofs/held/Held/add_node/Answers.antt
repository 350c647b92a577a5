use Rattle.mem_disk.proofs.Keeping.{keeps_node}
use Rattle.mem_disk.proofs.held.Held.add_node.Goals as goal

pub invariant_of-self : goal.invariant_of-self
invariant_of-self c =
    let self = c.args.self.now in
    record { kept = keeps_node self.names.list.items self.nodes.items self.calls.items self.kept _ c.push.new.self.items c.new.result c.push.ensures.items c.new.ensures.bytes c.new.ensures.synced c.new.ensures.doubted; apart = self.apart }
