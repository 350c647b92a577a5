use Rattle.std.proofs.Common.{◌≡◌, ℤ, map, ap, sym, ◌∙◌}
use Rattle.thrift_compact.specs.declared.tree.Node.TheOpen as layer
use Rattle.thrift_compact.specs.declared.tree.Node.TheViews as made
use Rattle.thrift_compact.specs.declared.tree.Node.TheFolds.{fold-roll-Node}
use Rattle.thrift_compact.specs.Tree as tree
use Rattle.thrift_compact.specs.Tree.{Node}
use Rattle.thrift_compact.specs.View.{view, view_step, field_step, pair_view, pair_views, pairs_of, code_of}
use Rattle.thrift_compact.proofs.SameSizes.{nodes-length, pairs-length, fields-length, same_map, map_pairs}
use Rattle.thrift_compact.proofs.sameness.+same.Goals as goal

pub same_fields-returns-then-a-b : goal.same_fields-returns-then-a-b
same_fields-returns-then-a-b t c = ((λ h. cc), (λ h. absurd (c.if-a-b.true (fields-length _ _ h))))

pub same_nodes-returns-then-a-b : goal.same_nodes-returns-then-a-b
same_nodes-returns-then-a-b t c = ((λ h. cc), (λ h. absurd (c.if-a-b.true (nodes-length _ _ h))))

pub same_pairs-returns-then-a-b : goal.same_pairs-returns-then-a-b
same_pairs-returns-then-a-b t c = ((λ h. cc), (λ h. absurd (c.if-a-b.true (pairs-length _ _ h))))

pub same_node-returns-then-have_same_codes : goal.same_node-returns-then-have_same_codes
unfolding made.roll-Node denote.Hole.Carrier.roll
same_node-returns-then-have_same_codes t c =
    let j = c.in-Map-Map.j in
    let x = c.in-Map-Map.x in
    let k = c.in-Map-Map.k in
    let y = c.in-Map-Map.y in
    let one : view (made.Map j x c.in-Map-Map.a) ≡ tree.map (code_of j) (code_of x) (pairs_of (map pair_view c.in-Map-Map.a.items)) =
    fold-roll-Node Node (ℤ × Node) view_step field_step (layer.Map j x c.in-Map-Map.a) in
    let other : view (made.Map k y c.in-Map-Map.b) ≡ tree.map (code_of k) (code_of y) (pairs_of (map pair_view c.in-Map-Map.b.items)) =
    fold-roll-Node Node (ℤ × Node) view_step field_step (layer.Map k y c.in-Map-Map.b) in
    let first = ap view c.in-Map-Map.is-0 ∙ one in
    let second = ap view c.in-Map-Map.is-1 ∙ other in
    let codes = c.have_same_codes.ensures.0 c.if-have_same_codes.true in
    let left = ap pair_views c.as_slice-then-have_same_codes.ensures.value in
    let right = ap pair_views c.as_slice-then-have_same_codes-2.ensures.value in (
      (λ h. first ∙ same_map (code_of j) (code_of k) (code_of x) (code_of y) _ _ codes.0 codes.1 (sym left ∙ c.same_pairs.ensures.0 h ∙ right) ∙ sym second),
      (λ h. c.same_pairs.ensures.1 (left ∙ map_pairs (code_of j) (code_of k) (code_of x) (code_of y) _ _ (sym first ∙ h ∙ second) ∙ sym right)),
    )
