use Rattle.std.proofs.Common.{◌≡◌, drop}
use Rattle.thrift_compact.specs.View.{views, pair_views, field_views}
use Rattle.thrift_compact.specs.inner.Writable.{can_write_each, can_write_pairs, can_write_fields}
use Rattle.thrift_compact.proofs.writable.+can_write.Given as goal

-- what is left can be written just where all can
abbrev pub invariant-can_write_each-loop-node : goal.invariant-can_write_each-loop-node
invariant-can_write_each-loop-node l = can_write_each l.deep l.code (views (drop l.node-index l.nodes)) ≡ can_write_each l.deep l.code (views l.nodes)

abbrev pub invariant-can_write_fields-loop-field : goal.invariant-can_write_fields-loop-field
invariant-can_write_fields-loop-field l = can_write_fields l.deep (field_views (drop l.field-index l.fields)) ≡ can_write_fields l.deep (field_views l.fields)

abbrev pub invariant-can_write_pairs-loop-key : goal.invariant-can_write_pairs-loop-key
invariant-can_write_pairs-loop-key l = can_write_pairs l.deep l.keys l.values (pair_views (drop l.key-index l.pairs)) ≡ can_write_pairs l.deep l.keys l.values (pair_views l.pairs)
