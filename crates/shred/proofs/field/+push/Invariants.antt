use Rattle.std.proofs.Common.{◌≡◌, ◌+◌, ◌<◌, ◌^◌, ◌++◌, length, drop}
use Rattle.schema.specs.Values.{views, each}
use Rattle.schema.specs.Views.{field_view, field_views}
use Rattle.schema.specs.Fits.{fits_each, fits_inside}
use Rattle.schema.specs.Reading.{count_leaves_each, tallest}
use Rattle.shred.specs.Columns.{column_refs_view}
use Rattle.shred.specs.inner.Growing.{grown, nils, stripes_each, stripes_later}
use Rattle.shred.proofs.field.+push.Given as goal

-- with what the fields that are left give, the columns are as wanted; whether these fit is whether all do
abbrev pub invariant-push_fields-loop-i : goal.invariant-push_fields-loop-i
invariant-push_fields-loop-i l = record {
  grown : grown (column_refs_view l.columns) (nils l.used ++ stripes_each l.i (field_views (drop l.i l.fields)) (views l.values) l.levels)
      ≡ grown (column_refs_view l.fn.columns) (stripes_each 0 (field_views l.fields) (views l.values) l.levels);
  fit : fits_each (field_views (drop l.i l.fields)) (views (drop l.i l.values)) ≡ fits_each (field_views l.fields) (views l.values);
  counts : l.used + count_leaves_each (field_views (drop l.i l.fields)) ≡ count_leaves_each (field_views l.fields);
  deep : l.levels.definition + tallest (field_views (drop l.i l.fields)) < 2 ^ 32;
  size : length l.columns ≡ length l.fn.columns;
}

-- so it is with the items after the first
abbrev pub invariant-push_items-loop-item : goal.invariant-push_items-loop-item
invariant-push_items-loop-item l = record {
  grown : grown (column_refs_view l.columns) (stripes_later (field_view l.field) (views (drop l.item-index l.others)) l.later_levels.definition l.later_levels.repeated)
      ≡ grown (column_refs_view l.initial.columns) (stripes_later (field_view l.field) (views l.others) l.later_levels.definition l.later_levels.repeated);
  fit : each (fits_inside (field_view l.field)) (views (drop l.item-index l.others)) ≡ each (fits_inside (field_view l.field)) (views l.others);
  size : length l.columns ≡ length l.fn.columns;
}
