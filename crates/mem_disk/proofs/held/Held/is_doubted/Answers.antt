use Rattle.std.proofs.Common.{sym, ◌∙◌, ap, false}
use Rattle.mem_disk.specs.declared.node.Node.{Node}
use Rattle.mem_disk.proofs.Tables.{node_at}
use Rattle.mem_disk.proofs.held.Held.is_doubted.Goals as goal

pub returns : goal.returns
returns c =
    let self = c.args.self.now in
    ap (λ (x : Node). x.doubted) c.index.ensures ∙ sym (self.kept.shows.doubted c.args.node ∙ node_at (λ (x : Node). x.doubted) false self.nodes.items c.args.node c.index.result.now c.requires)
