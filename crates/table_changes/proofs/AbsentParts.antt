-- Removals that pass groups whose part file is absent.
use Rattle.std.proofs.Common.{◌≡◌, ◌≤◌, ◌<◌, ◌+◌, ℕ, suc, Bool, true, false, nat_lt, List, [], ◌∷◌, length, Some, Result, Ok, Err, refl, subst, arith}
use Rattle.std.specs.Prelude.{IfOk}
use Rattle.std.specs.List.{slice_get, AllByRecursion}
use Rattle.std.proofs.lemmas.Bool.Decides.{nat_tests}
use Rattle.bits.specs.declared.refusal.Refusal.{Refusal}
use Rattle.schema.specs.Keys.{AreKeys, places_of}
use Rattle.schema.specs.Law.{IsSchema}
use Rattle.disk.specs.State.{State as DiskState}
use Rattle.vault.specs.Calls.{LeavesAll}
use Rattle.filter.specs.Test.{Test}
use Rattle.manifest.specs.Groups.{Group as FileGroup, Root}
use Rattle.scan.specs.Absent.{CanHoldNone, MayLack}
use Rattle.scan.proofs.SomeChunk.{some_chunk}
use Rattle.table_changes.specs.declared.remaining.Remains.{Remains}
use Rattle.table_reads.specs.Counting.{CanFilter, LacksIn}
use Rattle.table_commits.specs.Showing.{places_besides}
use Rattle.table_reads.proofs.AbsentFiles.{lacks_still}
use Rattle.table_reads.proofs.StoredColumns.{stored_wanted}

-- no row goes
pub none_goes : (result : Result Remains Refusal) (P : Type 0) → IfOk result (λ r. r.gone ≡ 0) → P → IfOk result (λ r. (r.gone ≡ 0) × P)
none_goes (Ok r) P none p = (none, p)
none_goes (Err e) P none p = tt

-- rows are read only by some chunk, as each column that the files have is wanted
pub never_read : {A : Type 0} (disk : DiskState) (tests : List (List Test)) (root : Root) (f : FileGroup) (x : A) → IsSchema root.schema → AreKeys root.keys root.schema → LacksIn disk root f
    → MayLack tests root.keys root.schema f (places_besides (places_of root.keys) 0 root.schema) (Some x) → ⊥
never_read disk tests root f x schema keyed lacks may =
    some_chunk tests root.keys root.schema f (places_besides (places_of root.keys) 0 root.schema) schema keyed lacks.is (stored_wanted (places_of root.keys) root.schema) may

-- ---- group after group

-- of the groups before a place, those whose part file is absent can hold no row that satisfies
abbrev pub NoneBefore : DiskState → List (List Test) → Root → ℕ → Type 0
NoneBefore disk tests root place = (n : ℕ) (f : FileGroup) → n < place → slice_get root.groups n ≡ Some f → LacksIn disk root f → CanHoldNone tests root.keys root.schema f

pub none_before : (disk : DiskState) (tests : List (List Test)) (root : Root) → NoneBefore disk tests root 0
none_before disk tests root n f low at lacks = absurd (omega (arith, low))

pub one_passed : (old mid : DiskState) (tests : List (List Test)) (root : Root) (place : ℕ) → LeavesAll old mid → NoneBefore old tests root place
    → ((f : FileGroup) → slice_get root.groups place ≡ Some f → LacksIn mid root f → CanHoldNone tests root.keys root.schema f) → NoneBefore old tests root (place + 1)
one_passed old mid tests root place leaves so_far here n f low at lacks = by (nat_lt n place) refl
  where
    by : (b : Bool) → nat_lt n place ≡ b → CanHoldNone tests root.keys root.schema f
    by true e = so_far n f (grind (arith, nat_tests, e)) at lacks
    by false e =
        let same : n ≡ place = grind (arith, nat_tests, e, low) in
        here f (subst (λ (k : ℕ). slice_get root.groups k ≡ Some f) same at) (lacks_still old mid leaves root.keys root.schema f lacks)

-- the table that is read is the store's
pub table_passed : (mid : DiskState) (tests : List (List Test)) (table root : Root) → table ≡ root → (place : ℕ)
    → (CanFilter tests table → (f : FileGroup) → slice_get table.groups place ≡ Some f → LacksIn mid table f → CanHoldNone tests table.keys table.schema f)
    → CanFilter tests root → (f : FileGroup) → slice_get root.groups place ≡ Some f → LacksIn mid root f → CanHoldNone tests root.keys root.schema f
table_passed mid tests table root same place passed =
    subst (λ (r : Root). CanFilter tests r → (f : FileGroup) → slice_get r.groups place ≡ Some f → LacksIn mid r f → CanHoldNone tests r.keys r.schema f) same passed

each_at : {A : Type 0} (P : A → Type 0) (xs : List A) → ((n : ℕ) (x : A) → n < length xs → slice_get xs n ≡ Some x → P x) → AllByRecursion P xs
each_at P [] each = tt
each_at P (x ∷ xs) each = (each 0 x (omega arith) refl, each_at P xs (λ n y low at. each (suc n) y (omega (arith, low)) at))

pub none_at_all : (disk : DiskState) (tests : List (List Test)) (root : Root) (place : ℕ) → length root.groups ≤ place → NoneBefore disk tests root place → AllByRecursion (λ f. LacksIn disk root f → CanHoldNone tests root.keys root.schema f) root.groups
none_at_all disk tests root place past before =
    each_at (λ f. LacksIn disk root f → CanHoldNone tests root.keys root.schema f) root.groups (λ n f low at lacks. before n f (omega (arith, low, past)) at lacks)
