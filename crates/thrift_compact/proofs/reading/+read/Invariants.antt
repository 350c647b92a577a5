use Rattle.std.proofs.Common.{◌+◌, ◌*◌, ◌-◌, length}
use Rattle.thrift_compact.specs.View.{code_of, views, pair_views, field_views}
use Rattle.thrift_compact.proofs.Elements.{Going}
use Rattle.thrift_compact.proofs.PairsRead.{GoingPairs}
use Rattle.thrift_compact.proofs.FieldsRead.{GoingFields}
use Rattle.thrift_compact.proofs.reading.+read.Given as goal

abbrev pub decreases-element_at : goal.decreases-element_at
decreases-element_at l = 5 * l.left + 2

abbrev pub decreases-elements_at : goal.decreases-elements_at
decreases-elements_at l = 5 * l.left + 3

abbrev pub decreases-pairs_at : goal.decreases-pairs_at
decreases-pairs_at l = 5 * l.left + 3

abbrev pub decreases-list_at : goal.decreases-list_at
decreases-list_at l = 5 * l.left + 4

abbrev pub decreases-map_at : goal.decreases-map_at
decreases-map_at l = 5 * l.left + 4

abbrev pub decreases-fields_at : goal.decreases-fields_at
decreases-fields_at l = 5 * l.left + 4

abbrev pub decreases-value_at : goal.decreases-value_at
decreases-value_at l = 5 * l.left + 1

abbrev pub decreases-nested_at : goal.decreases-nested_at
decreases-nested_at l = 5 * l.left

abbrev pub invariant-elements_at-loop : goal.invariant-elements_at-loop
invariant-elements_at-loop l = Going l.bytes (code_of l.kind) l.left l.size l.counter l.at (views l.values.items)

abbrev pub invariant-pairs_at-loop : goal.invariant-pairs_at-loop
invariant-pairs_at-loop l = GoingPairs l.bytes (code_of l.keys) (code_of l.values) l.left l.size l.counter l.at (pair_views l.pairs.items)

abbrev pub invariant-fields_at-loop-at : goal.invariant-fields_at-loop-at
invariant-fields_at-loop-at l = GoingFields l.bytes l.left l.at l.previous (field_views l.fields.items)

abbrev pub decreases-fields_at-loop-at : goal.decreases-fields_at-loop-at
decreases-fields_at-loop-at l = length l.bytes - l.at
