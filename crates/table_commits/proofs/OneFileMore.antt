-- One file more of a call.
use Rattle.std.proofs.Common.{◌≡◌, ◌≤◌, ◌<◌, ℕ, Bool, true, false, List, [], ◌∷◌, ◌++◌, Option, Some, None, Result, Ok, refl, arith, inl, inr, ⊎_elim}
use Rattle.std.specs.Prelude.{if◌then◌else◌, ◌||◌, ◌==◌}
use Rattle.std.specs.List.{AllByRecursion}
use Rattle.std.proofs.lemmas.Bool.{cases_lt}
use Rattle.std.specs.Rc.{rc_value}
use Rattle.std.specs.declared.rc.Rc.{Rc}
use Rattle.std.specs.declared.alloc.Global.{Global}
use Rattle.lists.proofs.Lists.{all_append, all_weaker as all_so}
use Rattle.bits.specs.declared.refusal.Refusal.{Refusal}
use Rattle.schema.specs.Keys.{without_keys}
use Rattle.disk.specs.State.{State as DiskState}
use Rattle.vault.specs.Calls.{HasFailed}
use Rattle.manifest.specs.declared.group.Group.{Group as CodeGroup}
use Rattle.manifest.specs.Groups.{Group as FileGroup, group_view}
use Rattle.manifest.specs.Records.{IsGroup}
use Rattle.snapshots.specs.State.{State as Versions, job_is_open, open_at, is_open}
use Rattle.snapshots.specs.Views.{state_of}
use Rattle.table.specs.Table.{Row, Key, Group}
use Rattle.table.specs.State.{State}
use Rattle.table_state.specs.declared.standing.Core.{Core}
use Rattle.table_state.specs.Stands.{AreStored}
use Rattle.table_commits.specs.Writing.{Writes, IsSameUse, IsHeldFor, counted}
use Rattle.table_commits.specs.Acting.{WroteTo}
use Rattle.table_commits.specs.Filling.{HasWritten, written_group}
use Rattle.table_commits.proofs.FilesSoFar.{wrote_more, stored_more}
use Rattle.table_commits.proofs.AppendCommits.{distinct_append, stored_append}

-- a failure after a front of the call is one of the whole
pub failed_since : (start mid new : DiskState) → start.failures ≤ mid.failures → mid.failures ≤ new.failures → HasFailed mid new → HasFailed start new
failed_since start mid new first later failed = ⊎_elim
    (λ l. inl (omega (arith, first, l)))
    (λ m. ⊎_elim (λ less. inl (omega (arith, less, later))) (λ same. inr (omega (arith, same, m))) (cases_lt start.failures mid.failures))
    failed

-- ---- the job

is_some : {A : Type 0} (n : ℕ) (xs : List (ℕ × A)) → is_open n xs ≡ true → (a : A) × (open_at n xs ≡ Some a)
is_some n [] e = absurd (cc)
is_some {A = A} n (x ∷ xs) e = by (x.0 == n) (is_some n xs) e
  where
    by : (b : Bool) → (is_open n xs ≡ true → (a : A) × (open_at n xs ≡ Some a)) → (b || is_open n xs) ≡ true → (a : A) × ((if b then Some x.1 else open_at n xs) ≡ Some a)
    by true r f = (x.1, refl)
    by false r f = r f

some_is : {A : Type 0} (n : ℕ) (xs : List (ℕ × A)) (a : A) → open_at n xs ≡ Some a → is_open n xs ≡ true
some_is n [] a e = absurd (cc)
some_is n (x ∷ xs) a e = by (x.0 == n) (some_is n xs a) e
  where
    by : (b : Bool) → (open_at n xs ≡ Some a → is_open n xs ≡ true) → (if b then Some x.1 else open_at n xs) ≡ Some a → (b || is_open n xs) ≡ true
    by true r f = refl
    by false r f = r f

pub open_more : (job : Option ℕ) (old new : Versions) → IsSameUse old new → job_is_open old job ≡ true → job_is_open new job ≡ true
open_more None old new use_is e = refl
open_more (Some n) old new use_is e = let was = is_some n old.jobs e in let more = use_is.jobs n was.0 was.1 in some_is n new.jobs more.0 more.1

pub held_more : (job : Option ℕ) (old new : Versions) → IsSameUse old new → (f : FileGroup) → IsHeldFor job old f → IsHeldFor job new f
held_more None old new use_is f h = tt
held_more (Some n) old new use_is f h = let more = use_is.jobs n h.0 h.1 in (more.0, more.1, more.2.files _ h.2)

-- ---- one file more

module _ {D : Type 0} (state : D → DiskState) (start mid new : Core D) (s : State) (job : Option ℕ) (files : List FileGroup) (groups : List Group) (key : Key) (rows : List Row)
    (has : HasWritten state start mid s job files groups) (later : (state mid.vault.disk).failures ≤ (state new.vault.disk).failures) (same : new.jobs ≡ mid.jobs) where
  pub wrote_so : (result : Result (Rc CodeGroup Global) Refusal) → Writes state mid new job key rows result (counted s mid.next_group) → WroteTo state start new s new.next_group
  wrote_so result writes = wrote_more state start mid new s mid.next_group has.wrote job key rows result writes same

  pub one_more : (g : Rc CodeGroup Global) → Writes state mid new job key rows (Ok g) (counted s mid.next_group)
      → HasWritten state start new s job (files ++ group_view (rc_value g) ∷ []) (groups ++ written_group mid.next_group key rows ∷ [])
  one_more g writes =
      let f = group_view (rc_value g) in
      let made = written_group mid.next_group key rows in
      let stored = stored_more state start mid new s mid.next_group has.wrote job key rows (Ok g) writes files groups has.stored in
      let number : mid.next_group ≡ f.number = writes.stored.number in
      let rises = has.wrote.rises in
      record {
        wrote = wrote_so (Ok g) writes;
        no_less = let a = has.no_less in omega (arith, a, later);
        job_open = open_more job (state_of mid.snapshots) (state_of new.snapshots) writes.in_use has.job_open;
        stored = stored_append (state new.vault.disk) s.table.keys s.table.schema new.next_group files (f ∷ []) groups (made ∷ []) stored (writes.stored, tt);
        held = all_append (λ (x : FileGroup). IsHeldFor job (state_of new.snapshots) x) files (f ∷ [])
            (all_so (λ (x : FileGroup). IsHeldFor job (state_of mid.snapshots) x) (λ (x : FileGroup). IsHeldFor job (state_of new.snapshots) x) (held_more job (state_of mid.snapshots) (state_of new.snapshots) writes.in_use) files has.held)
            (writes.held, tt);
        described = all_append (λ (x : FileGroup). IsGroup s.table.keys (without_keys s.table.keys s.table.schema) x) files (f ∷ []) has.described (writes.described, tt);
        above = all_append (λ (x : FileGroup). s.next_group ≤ x.number) files (f ∷ []) has.above (omega (arith, number, rises), tt);
        distinct = distinct_append mid.next_group files (f ∷ []) (low files groups has.stored) (omega (arith, number), tt) has.distinct (refl, tt);
      }
    where
      low : (fs : List FileGroup) (gs : List Group) → AreStored (state mid.vault.disk) s.table.keys s.table.schema mid.next_group fs gs → AllByRecursion (λ (x : FileGroup). x.number < mid.next_group) fs
      low [] [] z = tt
      low (x ∷ xs) (y ∷ ys) z = (z.0.below, low xs ys z.1)
      low [] (y ∷ ys) z = absurd z
      low (x ∷ xs) [] z = absurd z
