use Rattle.std.proofs.Common.{◌≡◌, map, take}
use Rattle.thrift_compact.specs.View.{view, pair_view, field_view}
use Rattle.thrift_compact.proofs.copying.+copied.Given as goal

abbrev pub invariant-copied_nodes-loop-node : goal.invariant-copied_nodes-loop-node
invariant-copied_nodes-loop-node l = map view l.copies.items ≡ map view (take l.node-index l.nodes)

abbrev pub invariant-copied_pairs-loop-key : goal.invariant-copied_pairs-loop-key
invariant-copied_pairs-loop-key l = map pair_view l.copies.items ≡ map pair_view (take l.key-index l.pairs)

abbrev pub invariant-copied_fields-loop-field : goal.invariant-copied_fields-loop-field
invariant-copied_fields-loop-field l = map field_view l.copies.items ≡ map field_view (take l.field-index l.fields)
