use Rattle.std.proofs.Common.{◌≡◌, drop}
use Rattle.schema.specs.Views.{field_views}
use Rattle.rowtext.specs.inner.Slots.{entries_view, ordered}
use Rattle.rowtext.proofs.row_plan.ordered.Given as goal

-- the indices so far are those of the last fields
abbrev pub invariant-loop-i : goal.invariant-loop-i
invariant-loop-i l = entries_view l.indices.entries ≡ ordered l.i (field_views (drop l.i l.fields))
