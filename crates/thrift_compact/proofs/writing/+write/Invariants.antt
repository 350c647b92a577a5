use Rattle.std.proofs.Common.{◌+◌, ◌*◌, take}
use Rattle.std.specs.Prelude.{pos}
use Rattle.bits.specs.Codec.{Appends}
use Rattle.thrift_compact.specs.View.{views, pair_views, field_views}
use Rattle.thrift_compact.specs.Length.{size_elements, size_pairs}
use Rattle.thrift_compact.specs.inner.Writing.{SpellsElements, SpellsPairs}
use Rattle.thrift_compact.specs.Piecewise.{AreBegun, size_begun}
use Rattle.thrift_compact.proofs.writing.+write.Given as goal

abbrev pub decreases-put_value : goal.decreases-put_value
decreases-put_value l = 5 * l.left + 1

abbrev pub decreases-put_struct : goal.decreases-put_struct
decreases-put_struct l = 5 * l.left

abbrev pub decreases-put_element : goal.decreases-put_element
decreases-put_element l = 5 * l.left + 2

abbrev pub decreases-put_pair : goal.decreases-put_pair
decreases-put_pair l = 5 * l.left + 3

abbrev pub decreases-put_elements : goal.decreases-put_elements
decreases-put_elements l = 5 * l.left + 4

abbrev pub decreases-put_pairs : goal.decreases-put_pairs
decreases-put_pairs l = 5 * l.left + 4

abbrev pub decreases-put_list : goal.decreases-put_list
decreases-put_list l = 5 * l.left

abbrev pub decreases-put_map : goal.decreases-put_map
decreases-put_map l = 5 * l.left

abbrev pub decreases-put_field : goal.decreases-put_field
decreases-put_field l = 5 * l.left + 2

abbrev pub decreases-put_fields : goal.decreases-put_fields
decreases-put_fields l = 5 * l.left + 3

abbrev pub invariant-put_elements-loop-value : goal.invariant-put_elements-loop-value
invariant-put_elements-loop-value l = let front = views (take l.value-index l.values) in Appends (SpellsElements l.code l.left front) (size_elements front) l.fn.out.items l.out.items

abbrev pub invariant-put_pairs-loop-pair : goal.invariant-put_pairs-loop-pair
invariant-put_pairs-loop-pair l = let front = pair_views (take l.pair-index l.pairs) in Appends (SpellsPairs l.keys l.values l.left front) (size_pairs front) l.fn.out.items l.out.items

abbrev pub invariant-put_fields-loop-field : goal.invariant-put_fields-loop-field
invariant-put_fields-loop-field l = let front = field_views (take l.field-index l.fields) in Appends (AreBegun l.left front (pos 0) l.previous) (size_begun front (pos 0)) l.fn.out.items l.out.items
