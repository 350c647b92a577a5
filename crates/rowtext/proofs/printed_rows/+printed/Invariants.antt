use Rattle.std.proofs.Common.{◌+◌, ◌*◌, ◌==◌, take, drop}
use Rattle.schema.specs.Fits.{fits_inside}
use Rattle.schema.specs.Views.{field_view, field_views}
use Rattle.rowtext.specs.Json.{inside_json}
use Rattle.rowtext.specs.inner.Lines.{rest_of}
use Rattle.rowtext.proofs.NamedMembers.{NamesGo}
use Rattle.rowtext.proofs.ShownRows.{ItemsGo, MembersGo}
use Rattle.rowtext.proofs.Sizes.{size, sizes}
use Rattle.rowtext.proofs.printed_rows.+printed.Given as goal

abbrev pub invariant-items_printed-items : goal.invariant-items_printed-items
invariant-items_printed-items l = ItemsGo (fits_inside (field_view l.field)) (inside_json (field_view l.field)) (rest_of l.initial.line) (rest_of l.line) l.later l.initial.pieces.items l.pieces.items

abbrev pub invariant-in_order-loop-i : goal.invariant-in_order-loop-i
invariant-in_order-loop-i l = MembersGo (field_views l.fields) (rest_of l.initial.line) (drop l.i l.fields) l.i (rest_of l.line) l.initial.pieces.items l.pieces.items

abbrev pub invariant-by_name-loop-i : goal.invariant-by_name-loop-i
invariant-by_name-loop-i l = NamesGo (field_views l.fields) (rest_of l.initial.line) (take l.i l.order) (l.i == 0) (rest_of l.line) l.read.items l.spans.items

abbrev pub decreases-inside_printed : goal.decreases-inside_printed
decreases-inside_printed l = 4 * size (field_view l.field.now)

abbrev pub decreases-items_printed : goal.decreases-items_printed
decreases-items_printed l = 4 * size (field_view l.field.now) + 1

abbrev pub decreases-field_printed : goal.decreases-field_printed
decreases-field_printed l = 4 * size (field_view l.field.now) + 2

abbrev pub decreases-in_order : goal.decreases-in_order
decreases-in_order l = 4 * sizes (field_views l.fields.now) + 3

abbrev pub decreases-member_printed : goal.decreases-member_printed
decreases-member_printed l = 4 * sizes (field_views l.fields.now) + 3

abbrev pub decreases-by_name : goal.decreases-by_name
decreases-by_name l = 4 * sizes (field_views l.fields.now) + 4

abbrev pub decreases-exchanged : goal.decreases-exchanged
decreases-exchanged l = 4 * sizes (field_views l.fields.now) + 3

abbrev pub decreases-ordered_printed : goal.decreases-ordered_printed
decreases-ordered_printed l = 4 * sizes (field_views l.fields.now) + 5

abbrev pub decreases-members_printed : goal.decreases-members_printed
decreases-members_printed l = 4 * sizes (field_views l.fields.now) + 6
