use Rattle.std.proofs.Common.{◌≡◌, ◌++◌, drop}
use Rattle.schema.specs.Elements.{elements_view}
use Rattle.schema.specs.Law.{AreValid}
use Rattle.schema.specs.Listed.{listings, AreFew}
use Rattle.schema.specs.Views.{field_views}
use Rattle.schema.proofs.listing.+listing.Given as goal

-- the elements so far, and those that are left, are all
abbrev pub invariant-push_listings-loop-field : goal.invariant-push_listings-loop-field
invariant-push_listings-loop-field l = record {
  all : elements_view l.out.items ++ listings (field_views (drop l.field-index l.fields)) ≡ elements_view l.fn.out.items ++ listings (field_views l.fields);
  valid : AreValid (field_views (drop l.field-index l.fields));
  few : AreFew (field_views (drop l.field-index l.fields));
}
