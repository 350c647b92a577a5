use Rattle.std.proofs.Common.{◌≡◌, ◌+◌, ◌==◌, true, false, refl, sym, ap, subst, ◌∙◌, arith, rules}
use Rattle.std.proofs.lemmas.Bool.{ne_eqb}
use Rattle.std.proofs.lemmas.Result.{on_ok_weaker}
use Rattle.json.specs.Lex.{fresh}
use Rattle.schema.specs.Views.{field_view, field_views}
use Rattle.rowtext.specs.Reading.{inside_read_as}
use Rattle.rowtext.specs.declared.pieces.Piece.TheVariants.{Null, GroupBegins, GroupEnds, ListBegins, ListEnds}
use Rattle.std.specs.Prelude.{MatchBool}
use Rattle.rowtext.specs.inner.Lines.{tokens_at, place_of, IsMore, IsClosed}
use Rattle.rowtext.specs.inner.Slots.{slots_view, slots_made}
use Rattle.rowtext.specs.inner.Spans.{AreArranged}
use Rattle.rowtext.proofs.Filling.{valid_there}
use Rattle.rowtext.proofs.LinePieces.{slot_there, group_slots}
use Rattle.rowtext.proofs.Turns.{Fills, leaf_inside, group_taken, group_valid, null_taken, list_taken, one_taken, items_begin, items_turn, items_end, longer, members_begin, members_turn, members_end, member_taken}
use Rattle.rowtext.proofs.row_lines.+lines.Goals as goal

pub inside_at-returns-in-Leaf : goal.inside_at-returns-in-Leaf
inside_at-returns-in-Leaf t c =
    on_ok_weaker c.leaf_at.result
    (leaf_inside c.args.texts c.args.field.now c.in-Leaf.name c.in-Leaf.repetition c.in-Leaf.leaf_type c.args.deep c.args.line.now c.leaf_at.new.line c.args.pieces.now.items c.leaf_at.new.pieces.items c.in-Leaf.is) (c.leaf_at.ensures c.args.deep)

pub inside_at-members_at-requires : goal.inside_at-members_at-requires
inside_at-members_at-requires t c =
    let fs = c.as_slice-fields.ensures.value in
    let g = group_slots c.args.field.now c.in-Group.name c.in-Group.repetition c.in-Group.annotation c.in-Group.fields c.args.slot.now c.in-Group-slot.key c.in-Group-slot.slots c.in-Group-slot.order c.in-Group.is c.in-Group-slot.is c.requires.slot in
    let valid = group_valid c.args.field.now c.in-Group.name c.in-Group.repetition c.in-Group.annotation c.in-Group.fields c.as_slice-fields.result.now c.in-Group.is fs c.requires.valid in
    (search rules, (ap slots_view c.as_slice-slots.ensures.value ∙ g.0 ∙ ap (λ xs. slots_made (field_views xs)) (sym fs), (valid.0, valid.1)))

pub inside_at-returns-in_ok-push-in-Group-slot-2 : goal.inside_at-returns-in_ok-push-in-Group-slot-2
inside_at-returns-in_ok-push-in-Group-slot-2 t c =
    group_taken c.args.texts c.args.field.now c.in-Group.name c.in-Group.repetition c.in-Group.annotation c.in-Group.fields c.as_slice-fields.result.now c.args.deep c.args.line.now c.skip_mark.new.self c.members_at.new.line
    c.args.pieces.now.items c.push.new.self.items c.members_at.new.pieces.items c.push-in-Group-slot.new.self.items GroupBegins GroupEnds c.in-Group.is c.as_slice-fields.ensures.value (omega (arith, c.if-deep-gt0.true))
    (c.if-not-skip_mark.ensures.taken refl) refl refl c.in_ok-push-in-Group-slot.ensures c.in_ok-members_at-in-Group-slot.ensures c.in_ok-push-in-Group-slot-2.ensures

pub items_at-items-init : goal.items_at-items-init
items_at-items-init t c = items_begin (inside_read_as c.args.texts (field_view c.args.field.now)) c.args.deep (tokens_at fresh c.args.line.now) c.args.pieces.now.items

pub items_at-items-preserved : goal.items_at-items-preserved
items_at-items-preserved t c =
    let l = c.items in
    let on : c.in_ok-more.more ≡ true = grind (arith, c.if-not-more.false) in
    items_turn (inside_read_as c.args.texts (field_view c.args.field.now)) c.args.deep (tokens_at fresh c.args.line.now) l.is_first l.line c.is_more.new.line c.inside_at.new.line c.args.pieces.now.items l.pieces.items c.inside_at.new.pieces.items
    l.invariant (subst (λ b. MatchBool b (IsMore l.is_first l.line c.is_more.new.line) (IsClosed 93 l.line c.is_more.new.line)) on c.in_ok-more.ensures) c.in_ok-inside_at.ensures

pub items_at-returns-then-not-more : goal.items_at-returns-then-not-more
items_at-returns-then-not-more t c =
    let l = c.items in
    let off : c.in_ok-more.more ≡ false = grind (arith, c.if-not-more.true) in
    items_end (inside_read_as c.args.texts (field_view c.args.field.now)) c.args.deep l.is_first c.args.line.now l.line c.is_more.new.line c.args.pieces.now.items l.pieces.items l.invariant
    (subst (λ b. MatchBool b (IsMore l.is_first l.line c.is_more.new.line) (IsClosed 93 l.line c.is_more.new.line)) off c.in_ok-more.ensures)

pub field_at-returns-in-Required : goal.field_at-returns-in-Required
field_at-returns-in-Required t c =
    on_ok_weaker c.inside_at.result
    (one_taken c.args.texts (field_view c.args.field.now) _ c.args.deep c.args.line.now c.args.line.now c.inside_at.new.line c.args.pieces.now.items c.inside_at.new.pieces.items (sym c.repetition.ensures ∙ c.in-Required.is) tt refl) c.inside_at.ensures

pub field_at-returns-then-skip : goal.field_at-returns-then-skip
field_at-returns-then-skip t c =
    null_taken c.args.texts (field_view c.args.field.now) c.args.deep c.args.line.now c.skip.new.self c.end_value.new.self c.args.pieces.now.items c.push.new.self.items Null (sym c.repetition.ensures ∙ c.in-Optional.is) (c.if-skip.ensures.taken refl) (c.if-not-end_value.ensures refl) refl
    c.in_ok-push-in-Optional.ensures

pub field_at-returns-else-skip : goal.field_at-returns-else-skip
field_at-returns-else-skip t c =
    on_ok_weaker c.inside_at-in-Optional.result
    (one_taken c.args.texts (field_view c.args.field.now) _ c.args.deep c.args.line.now c.skip.new.self c.inside_at-in-Optional.new.line c.args.pieces.now.items c.inside_at-in-Optional.new.pieces.items (sym c.repetition.ensures ∙ c.in-Optional.is) tt (c.if-skip.ensures.unchanged refl)) c.inside_at-in-Optional.ensures

pub field_at-returns-in_ok-push-in-Repeated-2 : goal.field_at-returns-in_ok-push-in-Repeated-2
field_at-returns-in_ok-push-in-Repeated-2 t c =
    list_taken c.args.texts (field_view c.args.field.now) c.args.deep c.args.line.now c.skip_mark.new.self c.items_at.new.line c.args.pieces.now.items c.push-in-Repeated.new.self.items c.items_at.new.pieces.items c.push-in-Repeated-2.new.self.items ListBegins ListEnds
    (sym c.repetition.ensures ∙ c.in-Repeated.is) (omega arith) (c.if-not-skip_mark.ensures.taken refl) refl refl c.in_ok-push-in-Repeated.ensures c.in_ok-items_at-in-Repeated.ensures c.in_ok-push-in-Repeated-2.ensures

pub member_at-field_at-requires : goal.member_at-field_at-requires
member_at-field_at-requires t c =
    let f = c.in_ok-field in
    let s = c.in_ok-slot in
    (search rules, (slot_there c.args.fields.now c.args.slots.now c.in_ok-index.index f.field.now s.slot.now c.requires.slots f.ensures.0 s.ensures.0 f.ensures.1 s.ensures.1, valid_there c.args.fields.now c.in_ok-index.index f.field.now f.ensures.0 f.ensures.1 c.requires.valid))

pub member_at-returns : goal.member_at-returns
member_at-returns t c =
    let f = c.in_ok-field in
    on_ok_weaker c.note.result
    (member_taken c.args.texts c.args.fields.now c.in_ok-index.index c.args.deep c.len-from.result c.len-to.result f.field.now c.in_ok-index.ensures.0 c.args.line.now c.index_at.new.line c.field_at.new.line c.args.pieces.now.items c.field_at.new.pieces.items c.args.spans.now.items c.note.new.self.items
    c.in_ok-index.ensures.1 c.in_ok-index.ensures.2 f.ensures.0 f.ensures.1 c.in_ok-field_at.ensures c.len-from.ensures c.len-to.ensures) c.note.ensures

pub members_at-members-init : goal.members_at-members-init
members_at-members-init t c = members_begin c.args.texts c.args.fields.now c.args.deep (tokens_at fresh c.args.line.now) c.args.pieces.now.items c.in_ok-spans.spans.items c.in_ok-spans.ensures

pub members_at-members-preserved : goal.members_at-members-preserved
members_at-members-preserved t c =
    let l = c.members in
    let on : c.in_ok-more.more ≡ true = grind (arith, c.if-not-more.false) in
    let more = subst (λ b. MatchBool b (IsMore (l.turn == 0) l.line c.is_more.new.line) (IsClosed 125 l.line c.is_more.new.line)) on c.in_ok-more.ensures in
    let fs = field_views c.args.fields.now in
    let later : (l.turn + 1 == 0) ≡ false = ne_eqb (l.turn + 1) 0 (λ (e : l.turn + 1 ≡ 0). omega (arith, e)) in
    let first = tokens_at fresh c.args.line.now in
    let old = c.args.pieces.now.items in
    let new = c.member_at.new.pieces.items in
    let spans = c.member_at.new.spans.items in
    let turn = members_turn c.args.texts fs c.args.deep first (l.turn == 0) l.line c.is_more.new.line c.member_at.new.line old l.pieces.items new l.spans.items spans c.requires.differ l.invariant more c.in_ok-member_at.ensures in
    subst (λ b. Fills c.args.texts fs c.args.deep first (tokens_at (place_of b) c.member_at.new.line) old new spans) (sym later) turn

pub members_at-arrange-requires : goal.members_at-arrange-requires
members_at-arrange-requires t c =
    let l = c.members in
    let long = longer c.args.pieces.now.items l.pieces.items l.invariant.2 l.invariant.6 in
    omega (arith, long, c.len-from.ensures)

pub members_at-returns-then-not-more : goal.members_at-returns-then-not-more
members_at-returns-then-not-more t c =
    let l = c.members in
    let off : c.in_ok-more.more ≡ false = grind (arith, c.if-not-more.true) in
    let closed = subst (λ b. MatchBool b (IsMore (l.turn == 0) l.line c.is_more.new.line) (IsClosed 125 l.line c.is_more.new.line)) off c.in_ok-more.ensures in
    let fs = field_views c.args.fields.now in
    on_ok_weaker c.arrange.result
    (λ put. members_end c.args.texts fs c.args.deep c.len-from.result (l.turn == 0) c.args.line.now l.line c.is_more.new.line c.args.pieces.now.items l.pieces.items c.arrange.new.pieces.items l.spans.items l.invariant closed c.len-from.ensures
    (subst (λ ss. AreArranged fs ss c.len-from.result l.pieces.items c.arrange.new.pieces.items) c.as_slice.ensures put)) c.arrange.ensures
