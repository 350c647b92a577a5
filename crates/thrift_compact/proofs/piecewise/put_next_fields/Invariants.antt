use Rattle.std.proofs.Common.{◌≡◌, List, ℕ, ◌++◌, map, take}
use Rattle.std.specs.Prelude.{ℤ}
use Rattle.thrift_compact.specs.Tree.{Node}
use Rattle.thrift_compact.specs.View.{field_view, field_views}
use Rattle.thrift_compact.specs.Piecewise.{BeginsStruct, last_of, last_id}
use Rattle.thrift_compact.proofs.piecewise.put_next_fields.Given as goal

-- the fields so far are written, and `last` is the id of the last one
abbrev pub invariant-loop-field : goal.invariant-loop-field
invariant-loop-field l = record {
  stands : (fs : List (ℤ × Node)) (old : List ℕ) → l.previous ≡ last_of fs → BeginsStruct fs old l.fn.out.items → BeginsStruct (fs ++ map field_view (take l.field-index l.fields)) old l.out.items;
  last : l.last ≡ last_id (field_views (take l.field-index l.fields)) l.previous;
}
