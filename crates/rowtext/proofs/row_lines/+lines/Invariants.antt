use Rattle.std.proofs.Common.{◌+◌, ◌*◌, ◌==◌}
use Rattle.json.specs.Lex.{fresh}
use Rattle.schema.specs.Views.{field_view, field_views}
use Rattle.rowtext.specs.Reading.{inside_read_as}
use Rattle.rowtext.specs.inner.Lines.{tokens_at, place_of}
use Rattle.rowtext.proofs.Turns.{Remains, Fills}
use Rattle.rowtext.proofs.row_lines.+lines.Given as goal

abbrev pub invariant-items_at-items : goal.invariant-items_at-items
invariant-items_at-items l = Remains (inside_read_as l.texts (field_view l.field)) l.deep (tokens_at fresh l.initial.line) (tokens_at (place_of l.is_first) l.line) l.initial.pieces.items l.pieces.items

abbrev pub invariant-members_at-members : goal.invariant-members_at-members
invariant-members_at-members l = Fills l.texts (field_views l.fields) l.deep (tokens_at fresh l.initial.line) (tokens_at (place_of (l.turn == 0)) l.line) l.initial.pieces.items l.pieces.items l.spans.items

abbrev pub decreases-inside_at : goal.decreases-inside_at
decreases-inside_at l = 4 * l.deep

abbrev pub decreases-items_at : goal.decreases-items_at
decreases-items_at l = 4 * l.deep + 1

abbrev pub decreases-field_at : goal.decreases-field_at
decreases-field_at l = 4 * l.deep + 1

abbrev pub decreases-member_at : goal.decreases-member_at
decreases-member_at l = 4 * l.deep + 2

abbrev pub decreases-members_at : goal.decreases-members_at
decreases-members_at l = 4 * l.deep + 3
