use Rattle.std.proofs.Common.{◌≡◌, ◌+◌, drop}
use Rattle.schema.specs.Views.{field_views}
use Rattle.schema.specs.Reading.{count_leaves_each}
use Rattle.schema.proofs.leaves.+counting.Given as goal

-- those of the fields so far, and of those that are left, are all
abbrev pub invariant-count_leaves_each-loop-field : goal.invariant-count_leaves_each-loop-field
invariant-count_leaves_each-loop-field l = l.count + count_leaves_each (field_views (drop l.field-index l.fields)) ≡ count_leaves_each (field_views l.fields)
