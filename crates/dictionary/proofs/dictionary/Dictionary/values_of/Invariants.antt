use Rattle.std.proofs.Common.{◌≡◌, ◌++◌, map, drop, Some}
use Rattle.std.specs.Prelude.{slice_get}
use Rattle.schema.specs.Borrowed.{value_ref_view}
use Rattle.dictionary.specs.Entries.{entries_of}
use Rattle.dictionary.proofs.dictionary.Dictionary.values_of.Given as goal

-- the entries so far and those at the indexes that are left are those at all
abbrev pub invariant-loop-index : goal.invariant-loop-index
invariant-loop-index l = map (λ v. Some (value_ref_view v)) l.values.items ++ map (slice_get (entries_of l.self)) (drop l.index-index l.indexes) ≡ map (slice_get (entries_of l.self)) l.indexes
