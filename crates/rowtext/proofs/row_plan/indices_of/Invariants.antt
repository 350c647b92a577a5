use Rattle.std.proofs.Common.{◌≡◌, ◌++◌, map}
use Rattle.schema.specs.Views.{field_views}
use Rattle.rowtext.specs.inner.Slots.{entries_view, second, indices_of}
use Rattle.rowtext.proofs.row_plan.indices_of.Given as goal

abbrev pub invariant-loop-index : goal.invariant-loop-index
invariant-loop-index l = l.indices.items ++ map second (entries_view l.index-iterator) ≡ indices_of (field_views l.fields)
