-- One job changes in place.
use Rattle.std.proofs.Common.{◌≡◌, ◌<◌, ℕ, zero, suc, Bool, true, false, ◌||◌, ◌==◌, if◌then◌else◌, List, [], ◌∷◌, length, reverse, get_or, set, refl, sym, ◌∙◌, ap, subst, arith}
use Rattle.std.specs.Prelude.{Vec}
use Rattle.std.specs.declared.alloc.Global.{Global}
use Rattle.std.specs.List.{AllZip}
use Rattle.std.proofs.lemmas.Bool.{eqb-true, or_parts as neither}
use Rattle.std.proofs.Common.{eq-eqb}
use Rattle.schema.specs.Shape.{Fields}
use Rattle.schema.specs.Cutting.{is_among}
use Rattle.schema.specs.Keys.{KeyColumn, AreDistinct}
use Rattle.disk.specs.State.{State as DiskState}
use Rattle.manifest.specs.Groups.{numbers_of}
use Rattle.snapshots.specs.State.{Pins, open_at}
use Rattle.snapshots.specs.Views.{state_of}
use Rattle.table.specs.State.{State, Job, changed_at}
use Rattle.table_state.specs.declared.standing.Core.{Core}
use Rattle.table_state.specs.declared.jobs.OpenJob.{OpenJob}
use Rattle.table_state.specs.Lookups.{jobs_with}
use Rattle.table_state.specs.Stands.{AreNumbered, ShowsJob, ShowsOpen, Shows, numbers_at, job_numbers, written_in}
use Rattle.table_commits.proofs.OtherJobsAndCursors.{IsOpenSo, shows_open}

-- ---- numbers stay

pub numbers_changed : {A : Type 0} (n : ℕ) (a : A) (xs : List (ℕ × A)) → numbers_at (changed_at n a xs) ≡ numbers_at xs
numbers_changed n a [] = refl
numbers_changed {A} n a (x ∷ xs) = by (x.0 == n) refl ∙ ap (λ (ns : List ℕ). x.0 ∷ ns) (numbers_changed n a xs)
  where
    by : (b : Bool) → (x.0 == n) ≡ b → (if b then (n, a) else x).0 ∷ numbers_at (changed_at n a xs) ≡ x.0 ∷ numbers_at (changed_at n a xs)
    by true e = ap (λ (m : ℕ). m ∷ numbers_at (changed_at n a xs)) (sym (eqb-true x.0 n e))
    by false e = refl

pub job_numbers_changed : (x : OpenJob) (js : List OpenJob) → job_numbers (jobs_with x js) ≡ job_numbers js
job_numbers_changed x [] = refl
job_numbers_changed x (j ∷ js) = by (j.number == x.number) refl ∙ ap (λ (ns : List ℕ). j.number ∷ ns) (job_numbers_changed x js)
  where
    by : (b : Bool) → (j.number == x.number) ≡ b → (if b then x else j).number ∷ job_numbers (jobs_with x js) ≡ j.number ∷ job_numbers (jobs_with x js)
    by true e = ap (λ (m : ℕ). m ∷ job_numbers (jobs_with x js)) (sym (eqb-true j.number x.number e))
    by false e = refl

-- ---- what is written at a place stands in place of those of its number

unlike : (m n : ℕ) → (m ≡ n → ⊥) → (m == n) ≡ false
unlike m n other = by (m == n) refl
  where
    by : (b : Bool) → (m == n) ≡ b → (m == n) ≡ false
    by true e = absurd (other (eqb-true m n e))
    by false e = e

flipped : (m n : ℕ) → (m == n) ≡ false → (n == m) ≡ false
flipped m n e = unlike n m (λ same. let c : true ≡ false = sym (eq-eqb m n (sym same)) ∙ e in cc)

pub none_changed : (x : OpenJob) (js : List OpenJob) → is_among (job_numbers js) x.number ≡ false → jobs_with x js ≡ js
none_changed x [] h = refl
none_changed x (j ∷ js) h =
    let q = neither (j.number == x.number) (is_among (job_numbers js) x.number) h in
    ap (λ (b : Bool). (if b then x else j) ∷ jobs_with x js) q.0 ∙ ap (λ (ks : List OpenJob). j ∷ ks) (none_changed x js q.1)

there_at : (js : List OpenJob) (i : ℕ) (d : OpenJob) → i < length js → is_among (job_numbers js) (get_or js i d).number ≡ true
there_at [] i d low = absurd (omega (arith, low))
there_at (j ∷ js) zero d low = ap (λ (b : Bool). b || is_among (job_numbers js) j.number) (eq-eqb j.number j.number refl)
there_at (j ∷ js) (suc i) d low = later (j.number == (get_or js i d).number) (is_among (job_numbers js) (get_or js i d).number) (there_at js i d (omega (arith, low)))
  where
    later : (a b : Bool) → b ≡ true → (a || b) ≡ true
    later true b e = refl
    later false b e = e

pub set_in_place : (x : OpenJob) (js : List OpenJob) (i : ℕ) (d : OpenJob) → i < length js → (get_or js i d).number ≡ x.number → AreDistinct (job_numbers js) → set js i x ≡ jobs_with x js
set_in_place x [] i d low e u = absurd (omega (arith, low))
set_in_place x (j ∷ js) zero d low e u =
    ap (λ (ks : List OpenJob). x ∷ ks) (sym (none_changed x js (subst (λ (n : ℕ). is_among (job_numbers js) n ≡ false) e u.0)))
    ∙ ap (λ (b : Bool). (if b then x else j) ∷ jobs_with x js) (sym (eq-eqb j.number x.number e))
set_in_place x (j ∷ js) (suc i) d low e u =
    let there : is_among (job_numbers js) x.number ≡ true = subst (λ (n : ℕ). is_among (job_numbers js) n ≡ true) e (there_at js i d (omega (arith, low))) in
    let other : (j.number == x.number) ≡ false = unlike j.number x.number (λ same. let c : true ≡ false = sym there ∙ subst (λ (n : ℕ). is_among (job_numbers js) n ≡ false) same u.0 in cc) in
    ap (λ (ks : List OpenJob). j ∷ ks) (set_in_place x js i d (omega (arith, low)) e u.1) ∙ ap (λ (b : Bool). (if b then x else j) ∷ jobs_with x js) (sym other)

-- ---- what is shown

module _ (disk : DiskState) (keys : List KeyColumn) (schema : Fields) (count size : ℕ) (had : ℕ → Bool) where
  abbrev Shown : List (ℕ × Pins) → OpenJob → ℕ × Job → Type 0
  Shown held x j = ShowsJob disk keys schema count size had held x j

  -- what is held for the others is the same
  pub jobs_changed_shown : (held later : List (ℕ × Pins)) (x : OpenJob) (j : Job) → Shown later x (x.number, j) → ((m : ℕ) → (m == x.number) ≡ false → open_at m later ≡ open_at m held)
      → (shown : List OpenJob) (js : List (ℕ × Job)) → AllZip (Shown held) shown js → AllZip (Shown later) (jobs_with x shown) (changed_at x.number j js)
  jobs_changed_shown held later x j is others [] [] z = tt
  jobs_changed_shown held later x j is others (y ∷ ys) (k ∷ ks) z =
      subst (λ (m : ℕ). AllZip (Shown later) (jobs_with x (y ∷ ys)) ((if m == x.number then (x.number, j) else k) ∷ changed_at x.number j ks)) z.0.number
      (by (y.number == x.number) refl, jobs_changed_shown held later x j is others ys ks z.1)
    where
      by : (b : Bool) → (y.number == x.number) ≡ b → Shown later (if b then x else y) (if b then (x.number, j) else k)
      by true e = is
      by false e = record { number = z.0.number; pins = z.0.pins; pinned = others y.number e ∙ z.0.pinned; work = z.0.work }
  jobs_changed_shown held later x j is others [] (k ∷ ks) z = absurd z
  jobs_changed_shown held later x j is others (y ∷ ys) [] z = absurd z

-- the store, whose versions are the same
module _ {D : Type 0} (state : D → DiskState) (store : Core D) (s : State) (shows : Shows state store s) (is_open : s.closed ≡ false) (x : OpenJob) (j : Job)
    (is : ShowsJob (state store.vault.disk) s.table.keys s.table.schema s.next_group s.options.group_rows s.had (state_of store.snapshots).jobs x (x.number, j))
    (jobs : Vec OpenJob Global) (changed : jobs.items ≡ jobs_with x store.jobs.items) (apart : AreDistinct (numbers_of (written_in (jobs_with x store.jobs.items)))) where
  here : ShowsOpen (state store.vault.disk) store s
  here = shows.shown is_open

  abbrev next : State
  next = record s { jobs = changed_at x.number j s.jobs }

  pub job_changed : Shows state (record store { jobs = jobs }) next
  job_changed = shows_open state store s shows is_open store.snapshots jobs store.cursors store.next_job store.next_cursor s.next_job s.next_cursor (changed_at x.number j s.jobs) s.cursors refl refl shows.next_job shows.next_cursor
      (subst (λ (js : List OpenJob). IsOpenSo (state store.vault.disk) (state_of store.snapshots) next js store.cursors.items) (sym changed) (record {
        jobs = jobs_changed_shown (state store.vault.disk) s.table.keys s.table.schema s.next_group s.options.group_rows s.had (state_of store.snapshots).jobs (state_of store.snapshots).jobs x j is (λ m e. refl) store.jobs.items s.jobs here.jobs;
        cursors = here.cursors;
        tracks_jobs = subst (λ (ns : List ℕ). numbers_at (state_of store.snapshots).jobs ≡ reverse ns) (sym (job_numbers_changed x store.jobs.items)) here.tracks_jobs;
        tracks_cursors = here.tracks_cursors;
        numbered_jobs = subst (λ (ns : List ℕ). AreNumbered s.next_job ns) (sym (numbers_changed x.number j s.jobs)) here.numbered_jobs;
        numbered_cursors = here.numbered_cursors;
        parted = apart;
        files = here.files;
      }))
