use Rattle.std.proofs.Common.{◌≡◌, ℕ, true, map, take, Some}
use Rattle.std.specs.Prelude.{IsTrue, slice_get}
use Rattle.schema.specs.declared.borrowed.ValueRef.{ValueRef}
use Rattle.schema.specs.Borrowed.{value_ref_view}
use Rattle.schema.specs.Fits.{fits_leaf}
use Rattle.schema.specs.Views.{leaf_type_view}
use Rattle.dictionary.specs.Entries.{AreEntriesAt}
use Rattle.pages.specs.inner.Reading.{AllFit}
use Rattle.pages.proofs.indexed_values.look_up.Given as goal

-- the values so far are those of the indexes so far, and entries that are marked were checked
abbrev pub invariant-loop-index : goal.invariant-loop-index
invariant-loop-index l =
    AreEntriesAt (map value_ref_view l.entries) (take l.index-index l.indexes) (map value_ref_view l.values.items)
    × AllFit (leaf_type_view l.leaf_type) (map value_ref_view l.values.items)
    × ((k : ℕ) (v : ValueRef) → slice_get l.entries k ≡ Some v → slice_get l.checked.items k ≡ Some true → IsTrue (fits_leaf (leaf_type_view l.leaf_type) (value_ref_view v)))
