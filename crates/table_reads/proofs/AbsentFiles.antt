-- Groups that are passed or counted though their part file is absent.
use Rattle.std.proofs.Common.{◌≡◌, ◌≤◌, ◌<◌, ℕ, zero, suc, Bool, true, false, nat_lt, List, [], ◌∷◌, length, Option, Some, None, Ok, refl, sym, ◌∙◌, ap, subst, arith}
use Rattle.std.specs.Prelude.{Vec, is_some}
use Rattle.std.specs.declared.alloc.Global.{Global}
use Rattle.std.specs.List.{slice_get}
use Rattle.std.proofs.lemmas.Bool.{false≢true}
use Rattle.std.proofs.lemmas.Bool.Decides.{nat_tests}
use Rattle.schema.specs.Shape.{Fields}
use Rattle.schema.specs.Keys.{KeyColumn}
use Rattle.disk.specs.State.{State as DiskState}
use Rattle.vault.specs.declared.vault.Vault.{Vault}
use Rattle.vault.specs.Calls.{LeavesAll}
use Rattle.partition.specs.Folders.{part_path_of}
use Rattle.filter.specs.Test.{Test, tests_in}
use Rattle.manifest.specs.Groups.{Group as FileGroup, Root, root_of}
use Rattle.scan.specs.declared.group_rows.GroupRows.{GroupRows}
use Rattle.scan.specs.Absent.{Lacks}
use Rattle.snapshots.specs.State.{State as Versions, group_in, version_at}
use Rattle.snapshots.specs.Views.{state_of}
use Rattle.table.specs.Table.{Row}
use Rattle.table.specs.Calls.{batch, ended}
use Rattle.table.specs.Views.{batch_view, fetched_view}
use Rattle.table.specs.History.{next_answer}
use Rattle.table.specs.declared.answer.Fetched.{Fetched}
use Rattle.table.specs.declared.answer.Fetched.TheVariants as fetched
use Rattle.table_state.specs.declared.standing.Core.{Core}
use Rattle.table_state.specs.declared.jobs.OpenCursor.{OpenCursor}
use Rattle.table_state.specs.Lookups.{cursor_at}
use Rattle.table_reads.specs.declared.passing.FetchedRows.{FetchedRows}
use Rattle.table_reads.specs.Counting.{CanFilter, LacksIn}
use Rattle.table_reads.specs.Reading.{IsReading}
use Rattle.table_reads.specs.Passing.{AreReached, IsOpened, LacksAt, MayPass, MayComeOf, PassesAbsent, FetchesAbsent, rows_fetched, batches_with, moved, moved_at}
use Rattle.table_reads.specs.Shown.{AreShown}
use Rattle.table_reads.proofs.FetchesGoOn.{moved_found}

-- nothing that only reads makes a part file
pub lacks_still : (old mid : DiskState) → LeavesAll old mid → (keys : List KeyColumn) (fs : Fields) (g : FileGroup) → Lacks old keys fs g → Lacks mid keys fs g
lacks_still old mid leaves keys fs g lacks = record { is = lacks.is; absent = leaves.seen (part_path_of keys g.key g.number) ∙ lacks.absent }

low_at : {A : Type 0} (xs : List A) (n : ℕ) (x : A) → slice_get xs n ≡ Some x → n < length xs
low_at [] n x at = absurd (cc)
low_at (y ∷ xs) zero x at = omega arith
low_at (y ∷ xs) (suc n) x at = let low = low_at xs n x at in omega (arith, low)

pub not_some : {A : Type 0} (o : Option A) → is_some o ≡ false → o ≡ None
not_some None e = refl
not_some (Some x) e = absurd (false≢true (sym e))

-- ---- a cursor

module _ (old : DiskState) (versions : Versions) (c : OpenCursor) where
  abbrev root : Root
  root = root_of c.table

  abbrev tests : List (List Test)
  tests = tests_in c.filter

  -- so far: no file of a group up to a place can have a row that satisfies, where it is absent
  abbrev pub PassedTo : ℕ → Type 0
  PassedTo at = old.honest → IsOpened versions c → (place : ℕ) (g : FileGroup) → c.passed ≤ place → place < at → LacksAt old c place g → MayPass c g

  pub passed_none : PassedTo c.passed
  passed_none honest opened place g from to lacks = absurd (omega (arith, from, to))

  module _ (p : ℕ) (mid : DiskState) (read : IsReading old mid) (so_far : PassedTo p) (q : ℕ) (q_is : q ≡ suc p) (rows : Option GroupRows)
      (absent : mid.honest → CanFilter tests root → (g : FileGroup) → group_in (version_at versions (Some c.number)) p ≡ Some g → LacksIn mid root g → MayComeOf c g rows) where
    here : old.honest → IsOpened versions c → (place : ℕ) (g : FileGroup) → place ≡ p → LacksAt old c place g → MayComeOf c g rows
    here honest opened place g same lacks =
        absent (read.honest.0 honest) opened.can g
        (ap (λ (o : Option (List FileGroup)). group_in o p) opened.held ∙ subst (λ (n : ℕ). slice_get root.groups n ≡ Some g) same lacks.0)
        (lacks_still old mid (read.unchanged honest) root.keys root.schema g lacks.1)

    -- the group at the place is passed: nothing was read of it
    pub passes_one : rows ≡ None → PassedTo q
    passes_one none honest opened place g from to lacks = by (nat_lt place p) refl
      where
        by : (b : Bool) → nat_lt place p ≡ b → MayPass c g
        by true e = so_far honest opened place g from (grind (arith, nat_tests, e)) lacks
        by false e = subst (MayComeOf c g) none (here honest opened place g (grind (arith, nat_tests, e, to, q_is)) lacks)

    -- rows were read of it
    pub comes_to_rows : is_some rows ≡ true → old.honest → IsOpened versions c → PassesAbsent old c q rows
    comes_to_rows some honest opened = record {
      before = λ place g from to lacks. so_far honest opened place g from (omega (arith, to, q_is)) lacks;
      last = λ place g from is lacks. here honest opened place g (omega (arith, is, q_is)) lacks;
      end = λ none. absurd (false≢true (ap is_some (sym none) ∙ some));
    }

  -- no group is left
  pub comes_to_end : (p : ℕ) → PassedTo p → length root.groups ≤ p → (to : ℕ) → old.honest → IsOpened versions c → PassesAbsent {A = GroupRows} old c to None
  comes_to_end p so_far over to honest opened =
      let each = λ (place : ℕ) (g : FileGroup) (from : c.passed ≤ place) (lacks : LacksAt old c place g). so_far honest opened place g from (let low = low_at root.groups place g lacks.0 in omega (arith, low, over)) lacks in record {
        before = λ place g from to lacks. each place g from lacks;
        last = λ place g from is lacks. each place g from lacks;
        end = λ none place g from lacks. each place g from lacks;
      }

-- ---- a fetch

passes_too : {A B : Type 0} (disk : DiskState) (c : OpenCursor) (to : ℕ) (rows : Option A) (answer : Option B) → is_some answer ≡ is_some rows → PassesAbsent disk c to rows → PassesAbsent disk c to answer
passes_too disk c to None None same h = record { before = h.before; last = h.last; end = λ none. h.end refl }
passes_too disk c to None (Some b) same h = absurd (false≢true (sym same))
passes_too disk c to (Some a) None same h = absurd (false≢true same)
passes_too disk c to (Some a) (Some b) same h = record { before = h.before; last = h.last; end = λ none. absurd (cc) }

-- what is answered has rows where rows were read
pub fetched_same : (places : List ℕ) (read : Option GroupRows) (f : Fetched) (rows : List Row) → AreReached read rows → fetched_view f ≡ next_answer (batches_with places rows) → is_some (rows_fetched f) ≡ is_some read
fetched_same places None (fetched.Batch b) rows are is = let no : batch (batch_view b) ≡ ended = is ∙ ap (λ (xs : List Row). next_answer (batches_with places xs)) are in absurd (cc)
fetched_same places None fetched.End rows are is = refl
fetched_same places (Some g) f [] are is = absurd (are.1 refl)
fetched_same places (Some g) (fetched.Batch b) (row ∷ rows) are is = refl
fetched_same places (Some g) fetched.End (row ∷ rows) are is = let no : ended ≡ batch (record { places = places; rows = row ∷ rows }) = is in absurd (cc)

pub shown_same : (places : List ℕ) (read : Option GroupRows) (made : Option FetchedRows) → AreShown places read made → is_some made ≡ is_some read
shown_same places None None are = refl
shown_same places None (Some f) are = absurd are
shown_same places (Some g) None are = absurd are
shown_same places (Some g) (Some f) are = refl

module _ {D : Type 0} (state : D → DiskState) (store : Core D) (n : ℕ) (c : OpenCursor) (at : cursor_at n store.cursors.items ≡ Some c) where
  found_one : (d : OpenCursor) → cursor_at n store.cursors.items ≡ Some d → c ≡ d
  found_one d e = let both : Some c ≡ Some d = sym at ∙ e in cc

  -- the end was answered before
  pub absent_over : {T A : Type 0} (rows : T → Option A) (answer : T) → c.ended ≡ true → FetchesAbsent state rows store store n (Ok answer)
  absent_over rows answer over honest d e going opened = absurd (false≢true (sym (ap (λ (x : OpenCursor). x.ended) (found_one d e) ∙ going) ∙ over))

  pub absent_went : {T A : Type 0} (rows : T → Option A) (vault : Vault D) (cursors : Vec OpenCursor Global) (passed : ℕ) (over : Bool) (answer : T) (read : Option GroupRows) → cursors.items ≡ moved_at n passed over store.cursors.items
      → is_some (rows answer) ≡ is_some read → ((state store.vault.disk).honest → IsOpened (state_of store.snapshots) c → PassesAbsent (state store.vault.disk) c passed read)
      → FetchesAbsent state rows store (record store { vault = vault; cursors = cursors }) n (Ok answer)
  absent_went rows vault cursors passed over answer read items same goes honest d e going opened =
      let one = found_one d e in (
        moved passed over c,
        ap (cursor_at n) items ∙ moved_found n passed over store.cursors.items c at,
        subst (λ (x : OpenCursor). PassesAbsent (state store.vault.disk) x passed (rows answer)) one
            (passes_too (state store.vault.disk) c passed read (rows answer) same (goes honest (subst (IsOpened (state_of store.snapshots)) (sym one) opened))),
      )
