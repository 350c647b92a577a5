use Rattle.std.proofs.Common.{◌+◌, ◌*◌, ◌-◌, length}
use Rattle.thrift_compact.specs.View.{code_of}
use Rattle.thrift_compact.proofs.PassedOver.{PastElements, PastPairs, PastFields}
use Rattle.thrift_compact.proofs.passing.+pass.Given as goal

abbrev pub decreases-pass_element : goal.decreases-pass_element
decreases-pass_element l = 5 * l.left + 2

abbrev pub decreases-pass_elements : goal.decreases-pass_elements
decreases-pass_elements l = 5 * l.left + 3

abbrev pub decreases-pass_pairs : goal.decreases-pass_pairs
decreases-pass_pairs l = 5 * l.left + 3

abbrev pub decreases-pass_list : goal.decreases-pass_list
decreases-pass_list l = 5 * l.left + 4

abbrev pub decreases-pass_map : goal.decreases-pass_map
decreases-pass_map l = 5 * l.left + 4

abbrev pub decreases-pass_fields : goal.decreases-pass_fields
decreases-pass_fields l = 5 * l.left + 4

abbrev pub decreases-pass_value : goal.decreases-pass_value
decreases-pass_value l = 5 * l.left + 1

abbrev pub decreases-pass_nested : goal.decreases-pass_nested
decreases-pass_nested l = 5 * l.left

abbrev pub invariant-pass_elements-loop : goal.invariant-pass_elements-loop
invariant-pass_elements-loop l = PastElements l.bytes (code_of l.kind) l.left l.size l.counter l.at

abbrev pub invariant-pass_pairs-loop : goal.invariant-pass_pairs-loop
invariant-pass_pairs-loop l = PastPairs l.bytes (code_of l.keys) (code_of l.values) l.left l.size l.counter l.at

abbrev pub invariant-pass_fields-loop-at : goal.invariant-pass_fields-loop-at
invariant-pass_fields-loop-at l = PastFields l.bytes l.left l.at l.previous

abbrev pub decreases-pass_fields-loop-at : goal.decreases-pass_fields-loop-at
decreases-pass_fields-loop-at l = length l.bytes - l.at
