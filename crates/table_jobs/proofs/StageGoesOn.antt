-- Rows that are staged: from what the job holds, to what it holds then.
use Rattle.std.proofs.Common.{◌≡◌, ◌≤◌, ◌+◌, ℕ, Bool, true, false, List, [], ◌∷◌, ◌++◌, map, length, drop, Option, Some, None, refl, sym, ◌∙◌, ap, subst, arith}
use Rattle.std.specs.Prelude.{if◌then◌else◌, ◌==◌}
use Rattle.std.specs.List.{AllByRecursion, AllZip, list_all}
use Rattle.std.proofs.Math.Seq.{drop-append-add}
use Rattle.std.proofs.lemmas.Bool.{and_parts, and_from, eqb-true}
use Rattle.std.proofs.Common.{eq-eqb}
use Rattle.std.proofs.lemmas.Option.{same_Some as some_is}
use Rattle.schema.specs.Shape.{Fields}
use Rattle.schema.specs.Keys.{KeyColumn, AreDistinct, AreRowsOf, key_of_row}
use Rattle.disk.specs.State.{State as DiskState}
use Rattle.partition.specs.Splitting.{key_rows_view}
use Rattle.manifest.specs.Groups.{Group as FileGroup, handles_view, numbers_of}
use Rattle.snapshots.specs.State.{Pins, open_at as pinned_at}
use Rattle.snapshots.specs.Views.{state_of}
use Rattle.table.specs.Table.{Row, Key, Group}
use Rattle.table.specs.State.{State, Job, appending, rewriting, open_at}
use Rattle.table.specs.Checks.{append_fault}
use Rattle.table_state.specs.declared.standing.Core.{Core}
use Rattle.table_state.specs.declared.jobs.OpenJob.{OpenJob}
use Rattle.table_state.specs.declared.jobs.Work.{Work}
use Rattle.table_state.specs.declared.jobs.Work.TheVariants.{Append, Rewrite}
use Rattle.table_state.specs.declared.jobs.Appending.{Appending}
use Rattle.table_state.specs.Lookups.{job_at}
use Rattle.table_state.specs.Stands.{AreStored, ShowsAppend, ShowsJob, ShowsWork, written_of}
use Rattle.table_commits.specs.Filling.{HasSize}
use Rattle.table_jobs.specs.Staging.{is_append, finds_append}
use Rattle.table_jobs.specs.Completing.{waiting_of, waiting_at, groups_of, groups_at}
use Rattle.table_commits.proofs.DistinctNumbers.{distinct_front, distinct_back}
use Rattle.table_reads.proofs.AfterEvents.{job_found, job_not_found}
use Rattle.table_commits.proofs.GroupsByKey.{IsKeyed}
use Rattle.table_commits.proofs.NumbersOfJobs.{numbers_written, numbers_first}
use Rattle.table_commits.proofs.KeyOrder.{Keyed}

-- ---- groups that are stored, and full

keyed_of : (keys : List KeyColumn) (key k : Key) → key ≡ k → (ws rs : List Row) → AreRowsOf keys key ws rs → Keyed (key_of_row keys) k rs
keyed_of keys key k same [] [] are = tt
keyed_of keys key k same (w ∷ ws) (r ∷ rs) are = (are.0.keyed ∙ same, keyed_of keys key k same ws rs are.1)
keyed_of keys key k same [] (r ∷ rs) are = absurd are
keyed_of keys key k same (w ∷ ws) [] are = absurd are

module _ (disk : DiskState) (keys : List KeyColumn) (schema : Fields) (count size : ℕ) where
  pub sized : (gs : List Group) → list_all (λ (g : Group). length g.rows == size) gs ≡ true → AllByRecursion (HasSize size) gs
  sized [] e = tt
  sized (g ∷ gs) e = let p = and_parts (length g.rows == size) (list_all (λ (h : Group). length h.rows == size) gs) e in (eqb-true (length g.rows) size p.0, sized gs p.1)

  pub all_sized : (gs : List Group) → AllByRecursion (HasSize size) gs → list_all (λ (g : Group). length g.rows == size) gs ≡ true
  all_sized [] h = refl
  all_sized (g ∷ gs) h = and_from (length g.rows == size) (list_all (λ (x : Group). length x.rows == size) gs) (eq-eqb (length g.rows) size h.0) (all_sized gs h.1)

  pub keyed_stored : 1 ≤ size → (fs : List FileGroup) (gs : List Group) → AreStored disk keys schema count fs gs → AllByRecursion (HasSize size) gs → AllByRecursion (IsKeyed keys) gs
  keyed_stored some [] [] z h = tt
  keyed_stored some (f ∷ fs) (g ∷ gs) z h =
      let long = h.0 in
      ((omega (arith, long, some), keyed_of keys f.key g.key (sym z.0.key) _ g.rows z.0.means.keyed), keyed_stored some fs gs z.1 h.1)
  keyed_stored some [] (g ∷ gs) z h = absurd z
  keyed_stored some (f ∷ fs) [] z h = absurd z

-- ---- a part behind so many rows

pub past_all : (xs ys : List Row) (j : ℕ) → drop (length xs + j) (xs ++ ys) ≡ drop j ys
past_all xs ys j = drop-append-add xs ys j

-- ---- the append that a job is

pub append_in : (o : Option OpenJob) (x : OpenJob) (a : Appending) → o ≡ Some x → x.work ≡ Append a → (waiting_at o ≡ map key_rows_view a.waiting.items) × (groups_at o ≡ handles_view a.written.items)
append_in o x a there is = (ap waiting_at there ∙ ap waiting_of is, ap groups_at there ∙ ap groups_of is)

-- the numbers of a job's files, among those of all
pub own_distinct : (n : ℕ) (js : List OpenJob) (x : OpenJob) → job_at n js ≡ Some x → AreDistinct (numbers_written js) → AreDistinct (numbers_of (written_of x.work))
own_distinct n [] x there d = absurd (cc)
own_distinct n (j ∷ js) x there d =
    let here : AreDistinct (numbers_of (written_of j.work) ++ numbers_written js) = subst AreDistinct (numbers_first j js) d in
    by (j.number == n) here (λ t. own_distinct n js x t (distinct_back (numbers_of (written_of j.work)) (numbers_written js) here)) there
  where
    by : (b : Bool) → AreDistinct (numbers_of (written_of j.work) ++ numbers_written js) → (job_at n js ≡ Some x → AreDistinct (numbers_of (written_of x.work))) → (if b then Some j else job_at n js) ≡ Some x → AreDistinct (numbers_of (written_of x.work))
    by true here r t = subst (λ (k : OpenJob). AreDistinct (numbers_of (written_of k.work))) (some_is j x t) (distinct_front (numbers_of (written_of j.work)) (numbers_written js) here)
    by false here r t = r t

module _ {D : Type 0} (state : D → DiskState) (s : State) (n : ℕ) where
  -- what an append holds, seen at this counter
  pub record Held (store : Core D) (count : ℕ) (a : Appending) : Type 0 where
    pub staged : List Row
    pub is_open : open_at n s.jobs ≡ Some (appending staged)
    pub pins : Pins
    pub pinned : pinned_at n (state_of store.snapshots).jobs ≡ Some pins
    pub shows : ShowsAppend (state store.vault.disk) s.table.keys s.table.schema count s.options.group_rows s.had pins a staged

  held_by : (store : Core D) (count : ℕ) (a : Appending) (pins : Pins) → pinned_at n (state_of store.snapshots).jobs ≡ Some pins → (j : Job) → open_at n s.jobs ≡ Some j
      → ShowsWork (state store.vault.disk) s.table.keys s.table.schema count s.options.group_rows s.had pins (Append a) j → Held store count a
  held_by store count a pins pinned (appending staged) e w = record { staged = staged; is_open = e; pins = pins; pinned = pinned; shows = w }
  held_by store count a pins pinned (rewriting runs unread) e w = absurd w

  pub held_in : (store : Core D) (count : ℕ) → AllZip (ShowsJob (state store.vault.disk) s.table.keys s.table.schema count s.options.group_rows s.had (state_of store.snapshots).jobs) store.jobs.items s.jobs
      → (x : OpenJob) (a : Appending) → job_at n store.jobs.items ≡ Some x → x.work ≡ Append a → Held store count a
  held_in store count z x a there is =
      let found = job_found (state store.vault.disk) s.table.keys s.table.schema count s.options.group_rows s.had n (state_of store.snapshots).jobs store.jobs.items s.jobs z x there in
      held_by store count a found.2.pins (ap (λ (m : ℕ). pinned_at m (state_of store.snapshots).jobs) (sym found.2.number) ∙ found.2.pinned) found.0 found.1
      (subst (λ (w : Work). ShowsWork (state store.vault.disk) s.table.keys s.table.schema count s.options.group_rows s.had found.2.pins w found.0) is found.2.work)

  -- the job is there
  pub record IsThere (store : Core D) : Type 0 where
    pub x : OpenJob
    pub a : Appending
    pub there : job_at n store.jobs.items ≡ Some x
    pub is : x.work ≡ Append a

  there_by : (store : Core D) (x : OpenJob) → job_at n store.jobs.items ≡ Some x → (pins : Pins) (count : ℕ) (j : Job) → ShowsWork (state store.vault.disk) s.table.keys s.table.schema count s.options.group_rows s.had pins x.work j
      → append_fault (Some j) ≡ None → IsThere store
  there_by store x there pins count j w fine = by x.work refl j w fine
    where
      by : (v : Work) → x.work ≡ v → (k : Job) → ShowsWork (state store.vault.disk) s.table.keys s.table.schema count s.options.group_rows s.had pins v k → append_fault (Some k) ≡ None → IsThere store
      by (Append a) e k v f = record { x = x; a = a; there = there; is = e }
      by (Rewrite r) e (appending staged) v f = absurd v
      by (Rewrite r) e (rewriting runs unread) v f = absurd (cc)

  pub append_there : (store : Core D) (count : ℕ) → AllZip (ShowsJob (state store.vault.disk) s.table.keys s.table.schema count s.options.group_rows s.had (state_of store.snapshots).jobs) store.jobs.items s.jobs
      → append_fault (open_at n s.jobs) ≡ None → IsThere store
  append_there store count z fine = by (job_at n store.jobs.items) refl
    where
      by : (o : Option OpenJob) → job_at n store.jobs.items ≡ o → IsThere store
      by None e =
          let none = job_not_found (state store.vault.disk) s.table.keys s.table.schema count s.options.group_rows s.had n (state_of store.snapshots).jobs store.jobs.items s.jobs z e in
          let c : append_fault None ≡ None = ap append_fault (sym none) ∙ fine in
          absurd (cc)
      by (Some x) e =
          let found = job_found (state store.vault.disk) s.table.keys s.table.schema count s.options.group_rows s.had n (state_of store.snapshots).jobs store.jobs.items s.jobs z x e in
          there_by store x e found.2.pins count found.0 found.2.work (ap append_fault (sym found.1) ∙ fine)

  found_by : (store : Core D) (x : OpenJob) → job_at n store.jobs.items ≡ Some x → (w : Work) → x.work ≡ w → is_append w ≡ true → IsThere store
  found_by store x there (Append a) e f = record { x = x; a = a; there = there; is = e }
  found_by store x there (Rewrite r) e f = absurd (cc)

  pub found_there : (store : Core D) → finds_append (job_at n store.jobs.items) ≡ true → IsThere store
  found_there store f = by (job_at n store.jobs.items) refl f
    where
      by : (o : Option OpenJob) → job_at n store.jobs.items ≡ o → finds_append o ≡ true → IsThere store
      by None e g = absurd (cc)
      by (Some x) e g = found_by store x e x.work refl g
