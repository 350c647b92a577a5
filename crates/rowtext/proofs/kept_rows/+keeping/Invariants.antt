use Rattle.std.proofs.Common.{◌≡◌, ◌+◌, ◌*◌, ◌++◌, drop, flat_map, false}
use Rattle.std.specs.List.{concat}
use Rattle.schema.specs.Values.{view, views}
use Rattle.rowtext.specs.inner.Slots.{slot_view, slots_view}
use Rattle.rowtext.specs.inner.Kept.{nth, kept_items, kept_pieces}
use Rattle.rowtext.proofs.Sizes.{value_size, value_sizes}
use Rattle.rowtext.proofs.kept_rows.+keeping.Given as goal

abbrev pub invariant-put_list-loop-item : goal.invariant-put_list-loop-item
invariant-put_list-loop-item l = l.out.items ++ kept_items l.later (slot_view l.slot) (views (drop l.item-index l.items)) ≡ l.initial.out.items ++ kept_items false (slot_view l.slot) (views l.items)

abbrev pub invariant-put_members-loop-i : goal.invariant-put_members-loop-i
invariant-put_members-loop-i l =
    let ps = kept_pieces (slots_view l.slots) (views l.values) in
    l.out.items ++ concat (drop l.i ps) ≡ l.initial.out.items ++ concat ps

abbrev pub invariant-put_ordered-loop-index : goal.invariant-put_ordered-loop-index
invariant-put_ordered-loop-index l =
    let ps = kept_pieces (slots_view l.slots) (views l.values) in
    l.out.items ++ flat_map (nth ps) (drop l.index-index l.order) ≡ l.initial.out.items ++ flat_map (nth ps) l.order

abbrev pub decreases-put_kept : goal.decreases-put_kept
decreases-put_kept l = 5 * value_size (view l.value.now)

abbrev pub decreases-put_list : goal.decreases-put_list
decreases-put_list l = 5 * value_sizes (views l.items.now) + 1

abbrev pub decreases-put_member : goal.decreases-put_member
decreases-put_member l = 5 * value_sizes (views l.values.now) + 1

abbrev pub decreases-put_members : goal.decreases-put_members
decreases-put_members l = 5 * value_sizes (views l.values.now) + 2

abbrev pub decreases-put_ordered : goal.decreases-put_ordered
decreases-put_ordered l = 5 * value_sizes (views l.values.now) + 2

abbrev pub decreases-put_object : goal.decreases-put_object
decreases-put_object l = 5 * value_sizes (views l.values.now) + 3

abbrev pub decreases-put_group : goal.decreases-put_group
decreases-put_group l = 5 * value_sizes (views l.values.now) + 4
