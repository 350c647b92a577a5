use Rattle.std.proofs.Common.{◌≡◌, ◌+◌, ◌++◌, length, drop}
use Rattle.schema.specs.Views.{field_views}
use Rattle.schema.specs.Reading.{count_leaves_each}
use Rattle.shred.specs.Columns.{column_refs_view}
use Rattle.shred.specs.inner.Growing.{grown, nils, absences_each}
use Rattle.shred.proofs.field.+absent.Given as goal

-- with what the fields that are left give, the columns are as wanted
abbrev pub invariant-push_absent_each-loop-field : goal.invariant-push_absent_each-loop-field
invariant-push_absent_each-loop-field l = record {
  grown : grown (column_refs_view l.columns) (nils l.used ++ absences_each l.field-index (field_views (drop l.field-index l.fields)) l.levels)
      ≡ grown (column_refs_view l.fn.columns) (absences_each 0 (field_views l.fields) l.levels);
  counts : l.used + count_leaves_each (field_views (drop l.field-index l.fields)) ≡ count_leaves_each (field_views l.fields);
  size : length l.columns ≡ length l.fn.columns;
}
