use Rattle.std.proofs.Common.{◌≡◌, drop, length}
use Rattle.std.specs.Vec.Iter.{into_iter_items, into_iter_len}
use Rattle.serde_json.specs.View.{items_view, members_view}
use Rattle.schema.specs.Views.{field_view, field_views}
use Rattle.rowtext.specs.Reading.{items_read, inside_read_as, members_read_as}
use Rattle.rowtext.proofs.Joined.{behind}
use Rattle.rowtext.proofs.row_reading.+reading.Given as goal

-- the values so far, before what the items that are left are, are what all are
abbrev pub invariant-items_from-loop-item : goal.invariant-items_from-loop-item
invariant-items_from-loop-item l =
    (items_read (inside_read_as l.texts (field_view l.field)) (items_view (into_iter_items l.initial.item-iterator)) ≡ behind l.all.items (items_read (inside_read_as l.texts (field_view l.field)) (items_view (into_iter_items l.item-iterator))))
    × (into_iter_len l.item-iterator ≡ length (into_iter_items l.item-iterator))

-- the values so far, before what the fields that are left take of the members that are left
abbrev pub invariant-members_from_as-loop-field : goal.invariant-members_from_as-loop-field
invariant-members_from_as-loop-field l =
    members_read_as l.texts (field_views l.fields) (members_view l.fn.members.entries) ≡ behind l.all.items (members_read_as l.texts (field_views (drop l.field-index l.fields)) (members_view l.members.entries))
