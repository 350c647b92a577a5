-- The filters and the keys of a table as functions, and that they are what their definitions say.
use Rattle.std.specs.Prelude.{◌↔◌, nat_le, Bool, false, ◌&&◌, List, length, Option, Some, None, Result, Ok, Err, IsTrue}
use Rattle.std.specs.List.{list_all}
use Rattle.bits.specs.declared.refusal.Refusal.{Refusal}
use Rattle.schema.specs.Shape.{Fields}
use Rattle.schema.specs.Stripe.{leaves_of}
use Rattle.schema.specs.Keys.{KeyColumn}
use Rattle.filter.specs.Terms.{Term, tests_of}
use Rattle.filter.specs.Test.{Test}
use Rattle.filter.specs.Deciding.{satisfies as all_satisfied}
use Rattle.partition.specs.Folders.{AreKeyColumns, CanPartition, is_key, folders}
use Rattle.table.specs.Table.{Row, Key}
pub use Rattle.filter.specs.Law.{TestsDecide}

-- an OR of ANDs of terms
abbrev pub Filter : Type 0
Filter = List (List Term)

-- whether the row passes the tests of a filter; no row does if the filter has a fault
abbrev pub passes : Result (List (List Test)) Refusal → Row → Bool
passes (Ok tests) row = all_satisfied tests row
passes (Err e) row = false

-- whether a row of this schema satisfies a filter
abbrev pub satisfies : Fields → Filter → Row → Bool
satisfies schema terms row = passes (tests_of (leaves_of schema) terms) row

-- why the filter is refused, or None if it has tests
abbrev pub refusal_in : Result (List (List Test)) Refusal → Option Refusal
refusal_in (Ok tests) = None
refusal_in (Err e) = Some e

-- the fault of the first term that has one
abbrev pub filter_fault : Fields → Filter → Option Refusal
filter_fault schema terms = refusal_in (tests_of (leaves_of schema) terms)

-- whether a key of these columns has folders
abbrev pub has_folders : List KeyColumn → Key → Bool
has_folders keys key = is_key keys key && list_all (λ folder. nat_le (length folder) 255) (folders keys key)

-- the keys that have folders are those that can partition
abbrev pub FoldersDecide : Type 0
FoldersDecide = (keys : List KeyColumn) (key : Key) → AreKeyColumns keys → IsTrue (has_folders keys key) ↔ CanPartition keys key
