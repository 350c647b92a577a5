use Rattle.std.proofs.Common.{◌≡◌, ℤ, List, map, ap, sym, ◌∙◌}
use Rattle.thrift_compact.specs.declared.tree.Node.TheOpen as layer
use Rattle.thrift_compact.specs.declared.tree.Node.TheViews as made
use Rattle.thrift_compact.specs.declared.tree.Node.TheFolds.{fold-roll-Node}
use Rattle.thrift_compact.specs.Tree as tree
use Rattle.thrift_compact.specs.Tree.{Node}
use Rattle.thrift_compact.specs.View.{view, view_step, field_step, pair_view, pairs_of, code_of}
use Rattle.thrift_compact.proofs.copying.+copied.Goals as goal

pub copied_node-returns-in_ok-copies-in-Map-clause-same : goal.copied_node-returns-in_ok-copies-in-Map-clause-same
unfolding made.roll-Node denote.Hole.Carrier.roll
copied_node-returns-in_ok-copies-in-Map-clause-same t c =
    let key = c.in-Map.key in
    let value = c.in-Map.value in
    let e : map pair_view c.in_ok-copies-in-Map.copies.items ≡ map pair_view c.in-Map.pairs.items = c.in_ok-copies-in-Map.ensures.same ∙ ap (map pair_view) c.as_slice-in-Map.ensures.value in
    let copy : view (made.Map key value c.in_ok-copies-in-Map.copies) ≡ tree.map (code_of key) (code_of value) (pairs_of (map pair_view c.in_ok-copies-in-Map.copies.items)) =
    fold-roll-Node Node (ℤ × Node) view_step field_step (layer.Map key value c.in_ok-copies-in-Map.copies) in
    let given : view (made.Map key value c.in-Map.pairs) ≡ tree.map (code_of key) (code_of value) (pairs_of (map pair_view c.in-Map.pairs.items)) =
    fold-roll-Node Node (ℤ × Node) view_step field_step (layer.Map key value c.in-Map.pairs) in
    copy ∙ ap (λ (ps : List (Node × Node)). tree.map (code_of key) (code_of value) (pairs_of ps)) e ∙ sym given ∙ sym (ap view c.in-Map.is)
