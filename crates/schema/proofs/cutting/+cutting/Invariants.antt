use Rattle.std.proofs.Common.{◌≡◌, ◌+◌, drop}
use Rattle.schema.specs.Reading.{count_leaves_each}
use Rattle.schema.specs.inner.Reading.{join_fields}
use Rattle.schema.specs.Cutting.{cut_each, is_marked}
use Rattle.schema.specs.Views.{field_views}
use Rattle.schema.proofs.cutting.+cutting.Given as goal

-- what is kept so far, and of those that are left, is kept of all
abbrev pub invariant-cut_each-loop-field : goal.invariant-cut_each-loop-field
invariant-cut_each-loop-field l = record {
  all : join_fields (field_views l.out.items) (cut_each (is_marked l.wanted) l.next (field_views (drop l.field-index l.fields))) ≡ cut_each (is_marked l.wanted) l.at (field_views l.fields);
  count : l.next + count_leaves_each (field_views (drop l.field-index l.fields)) ≡ l.at + count_leaves_each (field_views l.fields);
}
