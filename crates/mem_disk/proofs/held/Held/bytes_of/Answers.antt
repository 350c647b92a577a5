use Rattle.std.proofs.Common.{sym, ◌∙◌, ap, []}
use Rattle.mem_disk.specs.declared.node.Node.{Node}
use Rattle.mem_disk.proofs.Tables.{node_at}
use Rattle.mem_disk.proofs.held.Held.bytes_of.Goals as goal

pub returns : goal.returns
returns c =
    let self = c.args.self.now in
    c.deref.ensures.value ∙ ap (λ (x : Node). x.bytes.items) c.index.ensures ∙ sym (self.kept.shows.bytes c.args.node ∙ node_at (λ (x : Node). x.bytes.items) [] self.nodes.items c.args.node c.index.result.now c.requires)
