use Rattle.std.proofs.Common.{◌≡◌, ◌+◌, length, drop}
use Rattle.schema.specs.Listed.{listings}
use Rattle.schema.specs.Views.{field_views}
use Rattle.schema.proofs.key_elements.+sizes.Given as goal

abbrev pub invariant-count_elements_each-loop-field : goal.invariant-count_elements_each-loop-field
invariant-count_elements_each-loop-field l = l.total + length (listings (field_views (drop l.field-index l.fields))) ≡ length (listings (field_views l.fields))
