use Rattle.std.proofs.Common.{rules, ◌≡◌, ℕ, ap₂, ◌+◌, ◌<◌, ◌==◌, [], ◌∷◌, length, take, drop, get_or, true, false, refl, sym, ap, subst, ◌∙◌, arith}
use Rattle.std.proofs.lemmas.Bool.{ne_eqb}
use Rattle.std.proofs.lemmas.Bool.Decides.{nat_tests}
use Rattle.std.proofs.lemmas.Result.{on_ok_weaker}
use Rattle.std.proofs.lemmas.List.{drop_more, drop_all, take_more, take_all}
use Rattle.schema.specs.Fits.{fits_inside}
use Rattle.schema.specs.Views.{field_view, field_views}
use Rattle.rowtext.specs.Json.{inside_json}
use Rattle.rowtext.specs.declared.pieces.Piece.TheVariants.{Null, GroupBegins, GroupEnds, ListBegins, ListEnds}
use Rattle.rowtext.specs.inner.Lines.{rest_of}
use Rattle.rowtext.specs.inner.PieceLists.{exchanged}
use Rattle.rowtext.specs.inner.Slots.{slot_view, slots_view, slot_of, slots_made, key_in, order_of, order_view}
use Rattle.rowtext.proofs.LinePieces.{slot_there, group_slots}
use Rattle.rowtext.proofs.ShownRows.{group_shown, null_read, list_read, items_begin, items_turn, items_end, members_begin, members_turn, members_end, order_read, object_read}
use Rattle.rowtext.proofs.NamedMembers.{NamesGo, names_begin, names_turn, names_end, member_read, two_exchanged}
use Rattle.rowtext.proofs.Sorting.{pair}
use Rattle.rowtext.proofs.Sizes.{size_there, size_group}
use Rattle.rowtext.proofs.printed_rows.+printed.Goals as goal

pub in_order-field_printed-requires : goal.in_order-field_printed-requires
in_order-field_printed-requires t c =
    let small = size_there c.args.fields.now c.loop-i.i c.index-fields-i.result (omega arith) c.index-fields-i.is in
    (omega (arith, small), slot_there c.args.fields.now c.args.slots.now c.loop-i.i c.index-fields-i.result c.in_ok-slot.slot.now c.requires (omega arith) c.in_ok-slot.ensures.0 c.index-fields-i.is c.in_ok-slot.ensures.1)

pub inside_printed-members_printed-requires : goal.inside_printed-members_printed-requires
inside_printed-members_printed-requires t c =
    let small = size_group c.args.field.now c.in-Group.name c.in-Group.repetition c.in-Group.annotation c.in-Group.fields c.as_slice-fields.result.now c.in-Group.is c.as_slice-fields.ensures.value in
    let fs = c.as_slice-fields.ensures.value in
    let g = group_slots c.args.field.now c.in-Group.name c.in-Group.repetition c.in-Group.annotation c.in-Group.fields c.args.slot.now c.in-Group-slot.key c.in-Group-slot.slots c.in-Group-slot.order c.in-Group.is c.in-Group-slot.is c.requires in
    (omega (arith, small), (ap slots_view c.as_slice-slots.ensures.value ∙ g.0 ∙ ap (λ xs. slots_made (field_views xs)) (sym fs), c.borrowed-order.ensures ∙ g.1 ∙ ap (λ xs. order_of (field_views xs)) (sym fs)))

pub in_order-loop-i-preserved : goal.in_order-loop-i-preserved
in_order-loop-i-preserved t c =
    let l = c.loop-i in
    let fs = c.args.fields.now in
    let f = c.index-fields-i.result in
    let s = c.in_ok-slot.slot.now in
    let left : drop l.i fs ≡ f ∷ drop (l.i + 1) fs = drop_more fs l.i f (omega arith) ∙ ap (λ y. y ∷ drop (l.i + 1) fs) (sym c.index-fields-i.is) in
    let same : slot_view s ≡ slot_of (field_view f) = slot_there fs c.args.slots.now l.i f s c.requires (omega arith) c.in_ok-slot.ensures.0 c.index-fields-i.is c.in_ok-slot.ensures.1 in
    let held : c.skip_key.result ≡ true = grind (arith, c.if-not-skip_key.false) in
    members_turn (field_views fs) (rest_of c.args.line.now) (drop l.i fs) (drop (l.i + 1) fs) f l.i (rest_of l.line) (key_in (slot_view s)) c.skip_key.new.line c.field_printed.new.line c.args.pieces.now.items l.pieces.items c.field_printed.new.pieces.items
    l.invariant left (ap key_in same) (c.skip_key.ensures held) c.in_ok-field_printed.ensures

pub in_order-returns : goal.in_order-returns
in_order-returns t c =
    let l = c.loop-i in
    let fs = c.args.fields.now in
    let some : 0 < length fs = grind (arith, nat_tests, c.is_empty.ensures, c.if-is_empty.false) in
    members_end (field_views fs) (rest_of c.args.line.now) (drop l.i fs) l.i (rest_of l.line) c.args.pieces.now.items l.pieces.items l.invariant (drop_all l.i fs (omega arith)) (omega (arith, some))

pub items_printed-returns-then-skip_byte : goal.items_printed-returns-then-skip_byte
items_printed-returns-then-skip_byte t c =
    let f = field_view c.args.field.now in
    let l = c.items in
    items_end (fits_inside f) (inside_json f) (rest_of c.args.line.now) (rest_of l.line) (rest_of c.skip_byte.new.self) l.later c.args.pieces.now.items l.pieces.items l.invariant (c.if-skip_byte.ensures.taken refl)

pub items_printed-items-preserved : goal.items_printed-items-preserved
items_printed-items-preserved t c =
    let f = field_view c.args.field.now in
    let l = c.items in
    let held : c.skip_comma.result ≡ true = grind (arith, c.if-not-skip_comma.false) in
    items_turn (fits_inside f) (inside_json f) (rest_of c.args.line.now) (rest_of l.line) c.skip_comma.new.line c.inside_printed.new.line l.later c.args.pieces.now.items l.pieces.items c.inside_printed.new.pieces.items
    l.invariant (sym (c.if-skip_byte.ensures.unchanged refl) ∙ c.skip_comma.ensures held) c.in_ok-inside_printed.ensures

pub members_printed-returns-then-skip_byte : goal.members_printed-returns-then-skip_byte
members_printed-returns-then-skip_byte t c =
    object_read (field_views c.args.fields.now) (rest_of c.args.line.now) (rest_of c.skip_byte.new.self) (rest_of c.ordered_printed.new.line) (rest_of c.skip_byte-2.new.self) c.args.pieces.now.items c.ordered_printed.new.pieces.items
    (c.if-not-skip_byte.ensures.taken refl) c.in_ok-ordered_printed.ensures (c.if-skip_byte.ensures.taken refl)

pub by_name-loop-i-init : goal.by_name-loop-i-init
by_name-loop-i-init t c = names_begin c.args.fields.now (rest_of c.args.line.now) c.reserve.new.self.items c.in_ok-spans.spans.items c.in_ok-spans.ensures

pub by_name-loop-i-preserved : goal.by_name-loop-i-preserved
by_name-loop-i-preserved t c =
    let l = c.loop-i in
    let fs = field_views c.args.fields.now in
    let os = c.args.order.now in
    let first = rest_of c.args.line.now in
    let rest = rest_of c.member_printed.new.line in
    let read = c.member_printed.new.read.items in
    let spans = c.member_printed.new.spans.items in
    let later : (l.i + 1 == 0) ≡ false = ne_eqb (l.i + 1) 0 (λ (e : l.i + 1 ≡ 0). omega (arith, e)) in
    let turn = names_turn fs first (take l.i os) (get_or os l.i 0) (l.i == 0) (rest_of l.line) rest l.read.items read l.spans.items spans l.invariant c.in_ok-member_printed.ensures in
    subst (λ b. NamesGo fs first (take (l.i + 1) os) b rest read spans) (sym later) (subst (λ js. NamesGo fs first js false rest read spans) (sym (take_more os l.i 0 (omega arith))) turn)

pub by_name-returns : goal.by_name-returns
by_name-returns t c =
    let l = c.loop-i in
    let fs = field_views c.args.fields.now in
    let os = c.args.order.now in
    let some : 0 < length os = grind (arith, nat_tests, c.is_empty.ensures, c.if-is_empty.false) in
    let later : (l.i == 0) ≡ false = ne_eqb l.i 0 (λ (e : l.i ≡ 0). omega (arith, e, some)) in
    let first = rest_of c.args.line.now in
    let js = take l.i os in
    let b = l.i == 0 in
    let rest = rest_of l.line in
    let read = c.as_slice.result.now in
    let spans = c.as_slice-2.result.now in
    let so = subst (λ x. NamesGo fs first js b rest x spans) (sym c.as_slice.ensures) (subst (λ x. NamesGo fs first js b rest l.read.items x) (sym c.as_slice-2.ensures) l.invariant) in
    on_ok_weaker c.put_spans.result (names_end fs first js rest b read spans c.args.pieces.now.items c.put_spans.new.pieces.items so later (take_all l.i os (omega arith) ∙ c.requires.order)) c.put_spans.ensures

pub field_printed-returns-then-skip : goal.field_printed-returns-then-skip
field_printed-returns-then-skip t c =
    null_read (field_view c.args.field.now) c.args.line.now c.skip.new.self c.args.pieces.now.items c.push.new.self.items Null (sym c.repetition.ensures ∙ c.in-Optional.is) (c.if-skip.ensures.taken refl) refl c.in_ok-push-in-Optional.ensures

pub field_printed-returns-in_ok-push-in-Repeated-2 : goal.field_printed-returns-in_ok-push-in-Repeated-2
field_printed-returns-in_ok-push-in-Repeated-2 t c =
    list_read (field_view c.args.field.now) c.args.line.now c.skip_byte.new.self c.items_printed.new.line c.args.pieces.now.items c.push-in-Repeated.new.self.items c.items_printed.new.pieces.items c.push-in-Repeated-2.new.self.items ListBegins ListEnds
    (sym c.repetition.ensures ∙ c.in-Repeated.is) (c.if-not-skip_byte.ensures.taken refl) refl refl c.in_ok-push-in-Repeated.ensures c.in_ok-items_printed-in-Repeated.ensures c.in_ok-push-in-Repeated-2.ensures

pub in_order-loop-i-init : goal.in_order-loop-i-init
in_order-loop-i-init t c = members_begin c.args.fields.now (rest_of c.args.line.now) c.args.pieces.now.items

pub inside_printed-returns-in_ok-push-in-Group-slot-2 : goal.inside_printed-returns-in_ok-push-in-Group-slot-2
inside_printed-returns-in_ok-push-in-Group-slot-2 t c =
    group_shown c.args.field.now c.in-Group.name c.in-Group.repetition c.in-Group.annotation c.in-Group.fields c.as_slice-fields.result.now c.args.line.now c.members_printed.new.line
    c.args.pieces.now.items c.push.new.self.items c.members_printed.new.pieces.items c.push-in-Group-slot.new.self.items GroupBegins GroupEnds c.in-Group.is c.as_slice-fields.ensures.value refl refl
    c.in_ok-push-in-Group-slot.ensures c.in_ok-members_printed-in-Group-slot.ensures c.in_ok-push-in-Group-slot-2.ensures

pub items_printed-items-init : goal.items_printed-items-init
items_printed-items-init t c = let f = field_view c.args.field.now in items_begin (fits_inside f) (inside_json f) (rest_of c.args.line.now) c.args.pieces.now.items

pub member_printed-field_printed-requires : goal.member_printed-field_printed-requires
member_printed-field_printed-requires t c =
    let f = c.in_ok-field.field.now in
    let small = size_there c.args.fields.now c.args.index f c.in_ok-field.ensures.0 c.in_ok-field.ensures.1 in
    (omega (arith, small), slot_there c.args.fields.now c.args.slots.now c.args.index f c.in_ok-slot.slot.now c.requires c.in_ok-field.ensures.0 c.in_ok-slot.ensures.0 c.in_ok-field.ensures.1 c.in_ok-slot.ensures.1)

pub member_printed-returns : goal.member_printed-returns
member_printed-returns t c =
    let fs = c.args.fields.now in
    let f = c.in_ok-field.field.now in
    let s = c.in_ok-slot.slot.now in
    let same : slot_view s ≡ slot_of (field_view f) = slot_there fs c.args.slots.now c.args.index f s c.requires c.in_ok-field.ensures.0 c.in_ok-slot.ensures.0 c.in_ok-field.ensures.1 c.in_ok-slot.ensures.1 in
    let held : c.skip_key.result ≡ true = grind (arith, c.if-not-skip_key.false) in
    on_ok_weaker c.note.result
    (member_read fs c.args.index f c.args.is_first (rest_of c.args.line.now) (key_in (slot_view s)) c.skip_key.new.line c.field_printed.new.line c.args.read.now.items c.field_printed.new.pieces.items c.args.spans.now.items c.note.new.self.items
    c.len-from.result c.len-to.result c.in_ok-field.ensures.0 c.in_ok-field.ensures.1 (ap key_in same) (c.skip_key.ensures held) c.in_ok-field_printed.ensures c.len-from.ensures c.len-to.ensures) c.note.ensures

pub ordered_printed-returns-in-None : goal.ordered_printed-returns-in-None
ordered_printed-returns-in-None t c =
    on_ok_weaker c.in_order.result
    (order_read (field_views c.args.fields.now) (44 ∷ rest_of c.args.line.now) (rest_of c.in_order.new.line) c.args.pieces.now.items c.in_order.new.pieces.items (sym c.requires.order ∙ ap order_view c.in-None.is)) c.in_order.ensures

pub exchanged-returns : goal.exchanged-returns
exchanged-returns t c =
    let fs = c.args.fields.now in
    let ss = c.args.slots.now in
    let a = c.left-item.result in
    let b = c.right-item.result in
    let k = c.left_slot-item.result in
    let l = c.right_slot-item.result in
    let two : length fs ≡ 2 = search rules in
    let both : length ss ≡ 2 = search rules in
    let left = slot_there fs ss 0 a k c.requires.slots (omega (arith, two)) (omega (arith, both)) c.left-item.is c.left_slot-item.is in
    let right = slot_there fs ss 1 b l c.requires.slots (omega (arith, two)) (omega (arith, both)) c.right-item.is c.right_slot-item.is in
    let held : c.skip_key.result ≡ true = grind (arith, c.if-not-skip_key.false) in
    let held_left : c.skip_key-2.result ≡ true = grind (arith, c.if-not-skip_key-2.false) in
    two_exchanged fs a b (rest_of c.args.line.now) (key_in (slot_view k)) (key_in (slot_view l)) c.skip_key.new.line c.field_printed.new.line c.skip_key-2.new.line c.field_printed-2.new.line
    c.args.pieces.now.items c.field_printed.new.pieces.items c.field_printed-2.new.pieces.items c.exchange.new.self.items (pair fs a b two ∙ ap₂ (λ x y. x ∷ y ∷ []) (sym c.left-item.is) (sym c.right-item.is)) c.requires.order (ap key_in right) (ap key_in left)
    (c.skip_key.ensures held) c.in_ok-field_printed.ensures (c.skip_key-2.ensures held_left) c.in_ok-field_printed-2.ensures
    (c.exchange.ensures ∙ ap₂ (λ (m n : ℕ). exchanged m n c.field_printed-2.new.pieces.items) c.len-from.ensures c.len-middle.ensures)
