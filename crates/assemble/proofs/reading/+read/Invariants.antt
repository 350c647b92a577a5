use Rattle.std.proofs.Common.{◌≡◌, ◌+◌, ◌<◌, ◌^◌, map, length, drop}
use Rattle.schema.specs.Values.{ValueTrees}
use Rattle.schema.specs.Views.{field_view, field_views}
use Rattle.schema.specs.Law.{AreValid}
use Rattle.schema.specs.Reading.{tallest, count_leaves_each}
use Rattle.assemble.specs.Columns.{Fronts}
use Rattle.assemble.specs.Sinks.{Adds, tokens_each}
use Rattle.assemble.specs.Sources.{CausesStay}
use Rattle.assemble.specs.Standing.{HaveCause, Onward, Backward}
use Rattle.assemble.specs.inner.Fronts.{FitItems, stripes_items}
use Rattle.assemble.proofs.Each as each
use Rattle.assemble.proofs.Items as items
use Rattle.assemble.proofs.reading.+read.Given as goal

abbrev pub invariant-read_fields-loop-field : goal.invariant-read_fields-loop-field
invariant-read_fields-loop-field g l = record {
  seen :
      (vs : ValueTrees) × (
      each.WholeFit (field_views l.fields) (field_views (drop l.field-index l.fields)) vs
      × (Onward g.S.EntrySource.stands l.fn.sources l.sources (λ old now. each.SoFar (field_views l.fields) (field_views (drop l.field-index l.fields)) l.place.repetition l.place.definition l.place.own old now l.used vs)
      × (Backward g.S.EntrySource.stands l.fn.sources l.sources (each.Whole (field_views l.fields) (field_views (drop l.field-index l.fields)) l.place.repetition l.place.definition l.place.own l.used vs)
      × Adds (g.K.RowSink.shows l.fn.sink) (g.K.RowSink.shows l.sink) (tokens_each vs)))
      );
  counts : l.used + count_leaves_each (field_views (drop l.field-index l.fields)) ≡ count_leaves_each (field_views l.fields);
  valid : AreValid (field_views (drop l.field-index l.fields));
  deep : l.place.definition + tallest (field_views (drop l.field-index l.fields)) < 2 ^ 32;
  kept : map g.S.EntrySource.refused l.sources ≡ map g.S.EntrySource.refused l.fn.sources;
  stay : CausesStay (HaveCause g.S.EntrySource.cause) l.fn.sources l.sources;
  size : length l.sources ≡ length l.fn.sources;
  base : g.K.RowSink.base l.sink ≡ g.K.RowSink.base l.fn.sink;
}

abbrev pub invariant-read_items-more : goal.invariant-read_items-more
invariant-read_items-more g l = record {
  seen :
      (vs : ValueTrees) × (
      FitItems (field_view l.field) vs
      × (Onward g.S.EntrySource.stands l.fn.sources l.sources (λ old now. items.SoFar (field_view l.field) l.fn.place.repetition l.fn.place.definition l.fn.place.own old now vs)
      × (Backward g.S.EntrySource.stands l.fn.sources l.sources (Fronts (stripes_items (field_view l.field) l.fn.place.repetition l.fn.place.definition l.fn.place.own vs))
      × Adds (g.K.RowSink.shows l.fn.sink) (g.K.RowSink.shows l.sink) (tokens_each vs)))
      );
  kept : map g.S.EntrySource.refused l.sources ≡ map g.S.EntrySource.refused l.fn.sources;
  stay : CausesStay (HaveCause g.S.EntrySource.cause) l.fn.sources l.sources;
  size : length l.sources ≡ length l.fn.sources;
  base : g.K.RowSink.base l.sink ≡ g.K.RowSink.base l.fn.sink;
}
