use Rattle.std.proofs.Common.{◌≡◌, drop}
use Rattle.schema.specs.Views.{field_views}
use Rattle.assemble.specs.Flat.{is_flat}
use Rattle.assemble.proofs.flat.is_flat.Given as goal

-- the answer for the fields that are left is that for all
abbrev pub invariant-loop-field : goal.invariant-loop-field
invariant-loop-field l = is_flat (field_views (drop l.field-index l.fields)) ≡ is_flat (field_views l.fields)
