use Rattle.std.proofs.Common.{◌≡◌, drop}
use Rattle.schema.specs.Views.{field_views}
use Rattle.shred.specs.inner.Growing.{absences_each}
use Rattle.shred.specs.inner.Filling.{state_of, marked_of, given}
use Rattle.shred.proofs.filling.Filling.+absent.Given as goal

-- with what the fields that are left give, the columns are as wanted
abbrev pub invariant-put_absent_each-loop-field : goal.invariant-put_absent_each-loop-field
invariant-put_absent_each-loop-field l = record {
  given : given (state_of l.self) (absences_each l.field-index (field_views (drop l.field-index l.fields)) l.levels) ≡ given (state_of l.fn.self) (absences_each 0 (field_views l.fields) l.levels);
  marked : marked_of l.self ≡ marked_of l.fn.self;
}
