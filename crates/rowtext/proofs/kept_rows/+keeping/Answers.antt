use Rattle.std.proofs.Common.{◌≡◌, ◌+◌, ◌++◌, ◌∷◌, drop, false, sym, ap, ◌∙◌, arith, append-nil}
use Rattle.std.specs.List.{concat}
use Rattle.std.proofs.lemmas.List.{drop_more, drop_all}
use Rattle.std.proofs.lemmas.Result.{on_ok_weaker}
use Rattle.serde_json.specs.Written.{comma_if}
use Rattle.schema.specs.Values.{view, views}
use Rattle.rowtext.specs.inner.Slots.{slot_view, slots_view, key_in}
use Rattle.rowtext.specs.inner.Kept.{nth, kept_text, kept_items, kept_pieces}
use Rattle.rowtext.proofs.Sizes.{value_there, group_size, list_size}
use Rattle.rowtext.proofs.KeptSteps.{nth_there, nth_no_slot, nth_no_value, member_there, member_put, none_left, item_put, list_put}
use Rattle.rowtext.proofs.kept_rows.+keeping.Goals as goal

pub put_group-put_object-requires : goal.put_group-put_object-requires
put_group-put_object-requires t c = (omega arith, tt)

pub put_kept-put_group-requires : goal.put_kept-put_group-requires
put_kept-put_group-requires t c =
    let small = group_size c.args.value.now c.in-Group-default.values c.as_slice.result.now c.in-Group-default.is-0 c.as_slice.ensures.value in
    (omega (arith, small), tt)

pub put_kept-put_list-requires : goal.put_kept-put_list-requires
put_kept-put_list-requires t c =
    let small = list_size c.args.value.now c.in-List-default.items c.as_slice-in-List-default.result.now c.in-List-default.is-0 c.as_slice-in-List-default.ensures.value in
    (omega (arith, small), tt)

pub put_list-put_kept-requires : goal.put_list-put_kept-requires
put_list-put_kept-requires t c =
    let i = c.loop-item.item-index in
    let vs = c.args.items.now in
    let v = c.item-item.result in
    let left : drop i vs ≡ v ∷ drop (i + 1) vs = drop_more vs i v c.loop-item-test.true ∙ ap (λ y. y ∷ drop (i + 1) vs) (sym c.item-item.is) in
    let small = value_there vs i v (drop (i + 1) vs) left in
    (omega (arith, small), c.place_comma.ensures.ready)

pub put_list-loop-item-preserved : goal.put_list-loop-item-preserved
put_list-loop-item-preserved t c =
    let l = c.loop-item in
    let i = l.item-index in
    let vs = c.args.items.now in
    let v = c.item-item.result in
    let s = slot_view c.args.slot.now in
    let left : drop i vs ≡ v ∷ drop (i + 1) vs = drop_more vs i v c.loop-item-test.true ∙ ap (λ y. y ∷ drop (i + 1) vs) (sym c.item-item.is) in
    item_put s vs i v (drop (i + 1) vs) l.later l.out.items c.place_comma.new.out.items c.put_kept.new.out.items (c.push.new.self.items ++ kept_items false s (views vs)) left
    l.invariant (c.place_comma.ensures.items ∙ ap (λ x. x ++ comma_if l.later) c.in_ok-reserve.ensures.items) c.in_ok-put_kept.ensures

pub put_list-returns : goal.put_list-returns
put_list-returns t c =
    let l = c.loop-item in
    let vs = c.args.items.now in
    let s = slot_view c.args.slot.now in
    on_ok_weaker c.push-2.result
    (list_put s vs l.item-index l.later c.args.out.now.items c.push.new.self.items l.out.items c.push-2.new.self.items c.in_ok-push.ensures.items (drop_all l.item-index vs c.loop-item-test.false) l.invariant) c.push-2.ensures.items

pub put_member-returns-in_default : goal.put_member-returns-in_default
put_member-returns-in_default t c =
    sym (append-nil c.args.out.now.items) ∙ ap (λ s. c.args.out.now.items ++ s) (sym (nth_no_slot c.args.slots.now (views c.args.values.now) c.args.index c.in_default.ensures.none))

pub put_member-returns-in_default-value_at : goal.put_member-returns-in_default-value_at
put_member-returns-in_default-value_at t c =
    sym (append-nil c.args.out.now.items) ∙ ap (λ s. c.args.out.now.items ++ s) (sym (nth_no_value (slots_view c.args.slots.now) c.args.values.now c.args.index c.in_default-value_at.ensures.none))

pub put_member-put_kept-requires : goal.put_member-put_kept-requires
put_member-put_kept-requires t c =
    let small = value_there c.args.values.now c.args.index c.in-Some-value_at.value.now (drop (c.args.index + 1) c.args.values.now) c.in-Some-value_at.ensures.some in
    (omega (arith, small), c.in_ok-put.ensures.ready)

pub put_member-returns : goal.put_member-returns
put_member-returns t c =
    let ss = c.args.slots.now in
    let vs = c.args.values.now in
    let i = c.args.index in
    let s = c.in-Some.slot.now in
    let v = c.in-Some-value_at.value.now in
    let there = nth_there ss vs i s v (drop (i + 1) ss) (drop (i + 1) vs) c.in-Some.ensures.some c.in-Some-value_at.ensures.some in
    on_ok_weaker c.put_kept.result
    (λ put. member_there c.args.out.now.items c.put.new.out.items c.put_kept.new.out.items c.padded_key.result.now (key_in (slot_view s)) (kept_text (slot_view s) (view v)) (nth (kept_pieces (slots_view ss) (views vs)) i) c.in_ok-put.ensures.items c.padded_key.ensures put there) c.put_kept.ensures

pub put_members-put_member-requires : goal.put_members-put_member-requires
put_members-put_member-requires t c = (omega arith, tt)

pub put_members-loop-i-preserved : goal.put_members-loop-i-preserved
put_members-loop-i-preserved t c =
    let ps = kept_pieces (slots_view c.args.slots.now) (views c.args.values.now) in
    member_put ps c.loop-i.i c.loop-i.out.items c.put_member.new.out.items (c.args.out.now.items ++ concat ps) c.loop-i.invariant c.in_ok-put_member.ensures

pub put_members-returns : goal.put_members-returns
put_members-returns t c =
    let ps = kept_pieces (slots_view c.args.slots.now) (views c.args.values.now) in
    sym (append-nil c.loop-i.out.items) ∙ ap (λ s. c.loop-i.out.items ++ s) (sym (none_left c.args.slots.now (views c.args.values.now) c.loop-i.i (omega (arith, c.loop-i-test.false)))) ∙ c.loop-i.invariant

pub put_object-put_members-requires : goal.put_object-put_members-requires
put_object-put_members-requires t c = (omega arith, tt)

pub put_object-put_ordered-requires : goal.put_object-put_ordered-requires
put_object-put_ordered-requires t c = (omega arith, tt)

pub put_ordered-put_member-requires : goal.put_ordered-put_member-requires
put_ordered-put_member-requires t c = (omega arith, tt)
