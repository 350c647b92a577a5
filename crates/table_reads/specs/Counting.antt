-- Groups of a table that are held on a disk, and how many of their rows satisfy.
use Rattle.std.specs.Prelude.{◌≡◌, ℕ, List, [], ◌∷◌, filter, length, Ok}
use Rattle.std.specs.List.{AllByRecursion}
use Rattle.schema.specs.Keys.{AreKeys, without_keys}
use Rattle.schema.specs.Stripe.{leaves_of}
use Rattle.disk.specs.State.{State as DiskState}
use Rattle.filter.specs.Terms.{Term, tests_of}
use Rattle.filter.specs.Test.{Test}
use Rattle.filter.specs.Deciding.{satisfies as all_satisfied}
use Rattle.manifest.specs.Groups.{Group as FileGroup, Root}
use Rattle.manifest.specs.Records.{IsGroup}
use Rattle.scan.specs.Absent.{Lacks, NeedsNoFile}
use Rattle.scan.specs.Selected.{IsOver}
use Rattle.table.specs.Table.{Group, rows}
use Rattle.table_state.specs.Stands.{AreStored}

-- how many rows of these groups satisfy
abbrev pub matching : List (List Test) → List Group → ℕ
matching tests groups = length (filter (all_satisfied tests) (rows groups))

-- the table can have these files, and they are there and have the rows of these groups; the filter is one over its schema
pub record AreHeld (disk : DiskState) (tests : List (List Test)) (root : Root) (files : List FileGroup) (groups : List Group) : Type 0 where
  pub over : IsOver tests root.schema
  pub keyed : AreKeys root.keys root.schema
  pub count : ℕ
  pub stored : AreStored disk root.keys root.schema count files groups
  pub described : AllByRecursion (IsGroup root.keys (without_keys root.keys root.schema)) files

-- the table can have this file, and it is there and has the rows of this group; the filter is one over the table's schema
abbrev pub IsHeld : DiskState → List (List Test) → Root → FileGroup → Group → Type 0
IsHeld disk tests root file group = AreHeld disk tests root (file ∷ []) (group ∷ [])

-- a filter of these tests is one over a table's schema, and the table can have its keys
pub record CanFilter (tests : List (List Test)) (root : Root) : Type 0 where
  pub over : IsOver tests root.schema
  pub keyed : AreKeys root.keys root.schema

-- these terms make these tests over a table's schema, and the table can have its keys
pub record AreAsked (root : Root) (terms : List (List Term)) (tests : List (List Test)) : Type 0 where
  pub made : tests_of (leaves_of root.schema) terms ≡ Ok tests
  pub keyed : AreKeys root.keys root.schema

-- the table can have this file, and the disk reads no file at its path
abbrev pub LacksIn : DiskState → Root → FileGroup → Type 0
LacksIn disk root file = Lacks disk root.keys root.schema file

-- no part file is needed of each of these groups whose part file is absent, for the rows that satisfy, in the columns at these places
abbrev pub AreSpared : DiskState → List (List Test) → Root → List ℕ → List FileGroup → Type 0
AreSpared disk tests root places files = AllByRecursion (λ g. LacksIn disk root g → NeedsNoFile tests root.keys root.schema g places) files
