-- The numbers that jobs wrote, each once: where a job is opened, where one ends, and where one changes.
use Rattle.std.proofs.Common.{◌≡◌, ◌<◌, ℕ, Bool, true, false, not, ◌||◌, ◌==◌, if◌then◌else◌, List, [], ◌∷◌, ◌++◌, Option, Some, None, refl, sym, ap, subst}
use Rattle.std.specs.List.{AllZip}
use Rattle.std.proofs.lemmas.List.{map-append}
use Rattle.std.proofs.lemmas.Bool.{eqb-true}
use Rattle.schema.specs.Shape.{Fields}
use Rattle.schema.specs.Cutting.{is_among}
use Rattle.schema.specs.Keys.{KeyColumn, AreDistinct}
use Rattle.disk.specs.State.{State as DiskState}
use Rattle.manifest.specs.Groups.{Group as FileGroup, handles_view, numbers_of}
use Rattle.snapshots.specs.State.{Pins}
use Rattle.table.specs.Table.{Group}
use Rattle.table.specs.State.{Job, appending, rewriting}
use Rattle.table_state.specs.declared.jobs.OpenJob.{OpenJob}
use Rattle.table_state.specs.declared.jobs.Work.{Work}
use Rattle.table_state.specs.declared.jobs.Work.TheVariants.{Append, Rewrite}
use Rattle.table_state.specs.Lookups.{job_at, jobs_left, jobs_with}
use Rattle.table_state.specs.Stands.{AreStored, ShowsJob, ShowsWork, written_of, written_in, job_numbers}
use Rattle.table_commits.proofs.DistinctNumbers.{Within, WithinBelow, AllBelow, distinct_back, distinct_within, within_joined, within_later, distinct_changed, within_changed, distinct_later, within_back, below_front, below_back, among_later}
use Rattle.table_commits.proofs.JobsChanged.{none_changed}

abbrev pub numbers_written : List OpenJob → List ℕ
numbers_written js = numbers_of (written_in js)

-- the numbers of some files, and of those behind them
pub numbers_joined : (fs gs : List FileGroup) → numbers_of (fs ++ gs) ≡ numbers_of fs ++ numbers_of gs
numbers_joined fs gs = map-append (λ (g : FileGroup). g.number) fs gs

pub numbers_first : (j : OpenJob) (js : List OpenJob) → numbers_written (j ∷ js) ≡ numbers_of (written_of j.work) ++ numbers_written js
numbers_first j js = numbers_joined (written_of j.work) (written_in js)

-- ---- a job that wrote nothing

written_more : (x : OpenJob) → written_of x.work ≡ [] → (js : List OpenJob) → written_in (js ++ x ∷ []) ≡ written_in js
written_more x none [] = ap (λ (fs : List FileGroup). fs ++ []) none
written_more x none (j ∷ js) = ap (λ (fs : List FileGroup). written_of j.work ++ fs) (written_more x none js)

pub parted_more : (x : OpenJob) → written_of x.work ≡ [] → (js : List OpenJob) → AreDistinct (numbers_written js) → AreDistinct (numbers_written (js ++ x ∷ []))
parted_more x none js d = subst (λ (fs : List FileGroup). AreDistinct (numbers_of fs)) (sym (written_more x none js)) d

-- ---- a job that ends

module _ (n : ℕ) where
  left_within : (js : List OpenJob) → Within (numbers_written (jobs_left (Some n) js)) (numbers_written js)
  left_within [] = λ m h. refl
  left_within (j ∷ js) = subst (λ (ns : List ℕ). Within (numbers_written (jobs_left (Some n) (j ∷ js))) ns) (sym (numbers_first j js)) (by (j.number == n) (left_within js))
    where
      by : (b : Bool) → Within (numbers_written (jobs_left (Some n) js)) (numbers_written js)
          → Within (numbers_written (if not b then j ∷ jobs_left (Some n) js else jobs_left (Some n) js)) (numbers_of (written_of j.work) ++ numbers_written js)
      by true r = within_later (numbers_of (written_of j.work)) (numbers_written js) (numbers_written (jobs_left (Some n) js)) r
      by false r = subst (λ (ns : List ℕ). Within ns (numbers_of (written_of j.work) ++ numbers_written js)) (sym (numbers_first j (jobs_left (Some n) js)))
          (within_joined (numbers_of (written_of j.work)) (numbers_written js) (numbers_written (jobs_left (Some n) js)) r)

  left_distinct : (js : List OpenJob) → AreDistinct (numbers_written js) → AreDistinct (numbers_written (jobs_left (Some n) js))
  left_distinct [] d = tt
  left_distinct (j ∷ js) d =
      let here : AreDistinct (numbers_of (written_of j.work) ++ numbers_written js) = subst AreDistinct (numbers_first j js) d in
      by (j.number == n) here (left_distinct js (distinct_back (numbers_of (written_of j.work)) (numbers_written js) here))
    where
      by : (b : Bool) → AreDistinct (numbers_of (written_of j.work) ++ numbers_written js) → AreDistinct (numbers_written (jobs_left (Some n) js))
          → AreDistinct (numbers_written (if not b then j ∷ jobs_left (Some n) js else jobs_left (Some n) js))
      by true here later = later
      by false here later = subst AreDistinct (sym (numbers_first j (jobs_left (Some n) js)))
          (distinct_within (numbers_of (written_of j.work)) (numbers_written js) (numbers_written (jobs_left (Some n) js)) (left_within js) later here)

pub parted_left : (job : Option ℕ) (js : List OpenJob) → AreDistinct (numbers_written js) → AreDistinct (numbers_written (jobs_left job js))
parted_left None js d = d
parted_left (Some n) js d = left_distinct n js d

-- ---- a job that wrote more

-- the numbers that it writes now are those that it wrote, or are not below the floor
pub record WritesOn (floor : ℕ) (old new : Work) : Type 0 where
  pub distinct : AreDistinct (numbers_of (written_of new))
  pub within : WithinBelow floor (numbers_of (written_of new)) (numbers_of (written_of old))

module _ (floor : ℕ) (x y : OpenJob) (on : WritesOn floor y.work x.work) where
  changed_within : (js : List OpenJob) → job_at x.number js ≡ Some y → AreDistinct (job_numbers js) → WithinBelow floor (numbers_written (jobs_with x js)) (numbers_written js)
  changed_within [] there d = absurd (cc)
  changed_within (j ∷ js) there d = by (j.number == x.number) refl there (λ t. changed_within js t d.1)
    where
      by : (b : Bool) → (j.number == x.number) ≡ b → (if b then Some j else job_at x.number js) ≡ Some y → (job_at x.number js ≡ Some y → WithinBelow floor (numbers_written (jobs_with x js)) (numbers_written js))
          → WithinBelow floor (numbers_written ((if b then x else j) ∷ jobs_with x js)) (numbers_written (j ∷ js))
      by true e t r =
          let is_y : j ≡ y = cc in
          let rest : jobs_with x js ≡ js = none_changed x js (subst (λ (m : ℕ). is_among (job_numbers js) m ≡ false) (eqb-true j.number x.number e) d.0) in
          subst (λ (ks : List OpenJob). WithinBelow floor (numbers_written (x ∷ ks)) (numbers_written (j ∷ js))) (sym rest)
          (subst (λ (ns : List ℕ). WithinBelow floor ns (numbers_written (j ∷ js))) (sym (numbers_first x js))
          (subst (λ (ns : List ℕ). WithinBelow floor (numbers_of (written_of x.work) ++ numbers_written js) ns) (sym (numbers_first j js))
          (within_changed floor (numbers_of (written_of j.work)) (numbers_of (written_of x.work)) (numbers_written js)
          (subst (λ (k : OpenJob). WithinBelow floor (numbers_of (written_of x.work)) (numbers_of (written_of k.work))) (sym is_y) on.within))))
      by false e t r =
          subst (λ (ns : List ℕ). WithinBelow floor ns (numbers_written (j ∷ js))) (sym (numbers_first j (jobs_with x js)))
          (subst (λ (ns : List ℕ). WithinBelow floor (numbers_of (written_of j.work) ++ numbers_written (jobs_with x js)) ns) (sym (numbers_first j js))
          (within_back floor (numbers_of (written_of j.work)) (numbers_written js) (numbers_written (jobs_with x js)) (r t)))

  pub parted_changed : (js : List OpenJob) → job_at x.number js ≡ Some y → AreDistinct (job_numbers js) → AllBelow floor (numbers_written js) → AreDistinct (numbers_written js) → AreDistinct (numbers_written (jobs_with x js))
  parted_changed [] there d low all = absurd (cc)
  parted_changed (j ∷ js) there d low all =
      let low_here : AllBelow floor (numbers_of (written_of j.work) ++ numbers_written js) = subst (λ (ns : List ℕ). AllBelow floor ns) (numbers_first j js) low in
      let all_here : AreDistinct (numbers_of (written_of j.work) ++ numbers_written js) = subst AreDistinct (numbers_first j js) all in
      by (j.number == x.number) refl there low_here all_here
      (λ t. parted_changed js t d.1 (below_back floor (numbers_of (written_of j.work)) (numbers_written js) low_here) (distinct_back (numbers_of (written_of j.work)) (numbers_written js) all_here))
    where
      by : (b : Bool) → (j.number == x.number) ≡ b → (if b then Some j else job_at x.number js) ≡ Some y → AllBelow floor (numbers_of (written_of j.work) ++ numbers_written js) → AreDistinct (numbers_of (written_of j.work) ++ numbers_written js)
          → (job_at x.number js ≡ Some y → AreDistinct (numbers_written (jobs_with x js))) → AreDistinct (numbers_written ((if b then x else j) ∷ jobs_with x js))
      by true e t low_here all_here r =
          let is_y : j ≡ y = cc in
          let rest : jobs_with x js ≡ js = none_changed x js (subst (λ (m : ℕ). is_among (job_numbers js) m ≡ false) (eqb-true j.number x.number e) d.0) in
          subst (λ (ks : List OpenJob). AreDistinct (numbers_written (x ∷ ks))) (sym rest)
          (subst AreDistinct (sym (numbers_first x js))
          (distinct_changed floor (numbers_of (written_of j.work)) (numbers_of (written_of x.work)) (numbers_written js) (below_back floor (numbers_of (written_of j.work)) (numbers_written js) low_here)
          (subst (λ (k : OpenJob). WithinBelow floor (numbers_of (written_of x.work)) (numbers_of (written_of k.work))) (sym is_y) on.within) on.distinct all_here))
      by false e t low_here all_here r =
          subst AreDistinct (sym (numbers_first j (jobs_with x js)))
          (distinct_later floor (numbers_of (written_of j.work)) (numbers_written js) (numbers_written (jobs_with x js)) (below_front floor (numbers_of (written_of j.work)) (numbers_written js) low_here)
          (changed_within js t d.1) (r t) all_here)

-- ---- they are below the counter

module _ (disk : DiskState) (keys : List KeyColumn) (schema : Fields) (count size : ℕ) (had : ℕ → Bool) where
  pub files_below : (fs : List FileGroup) (gs : List Group) → AreStored disk keys schema count fs gs → AllBelow count (numbers_of fs)
  files_below [] [] z n h = absurd (cc)
  files_below (f ∷ fs) (g ∷ gs) z n h = by (f.number == n) refl h (files_below fs gs z.1 n)
    where
      by : (b : Bool) → (f.number == n) ≡ b → (b || is_among (numbers_of fs) n) ≡ true → (is_among (numbers_of fs) n ≡ true → n < count) → n < count
      by true e i r = subst (λ (m : ℕ). m < count) (eqb-true f.number n e) z.0.below
      by false e i r = r i
  files_below [] (g ∷ gs) z n h = absurd z
  files_below (f ∷ fs) [] z n h = absurd z

  both_below : (fs gs : List FileGroup) → AllBelow count (numbers_of fs) → AllBelow count (numbers_of gs) → AllBelow count (numbers_of (fs ++ gs))
  both_below [] gs a b n h = b n h
  both_below (f ∷ fs) gs a b n h = by (f.number == n) refl h (both_below fs gs (λ m k. a m (among_later f.number (numbers_of fs) m k)) b n)
    where
      by : (c : Bool) → (f.number == n) ≡ c → (c || is_among (numbers_of (fs ++ gs)) n) ≡ true → (is_among (numbers_of (fs ++ gs)) n ≡ true → n < count) → n < count
      by true e i r = a n (ap (λ (c : Bool). c || is_among (numbers_of fs) n) e)
      by false e i r = r i

  work_below : (pins : Pins) (w : Work) (j : Job) → ShowsWork disk keys schema count size had pins w j → AllBelow count (numbers_of (written_of w))
  work_below pins (Append a) (appending staged) is = files_below (handles_view a.written.items) is.groups is.are_written.stored
  work_below pins (Rewrite r) (rewriting runs unread) is = λ n h. absurd (cc)
  work_below pins (Append a) (rewriting runs unread) is = absurd is
  work_below pins (Rewrite r) (appending staged) is = absurd is

  pub written_below : (held : List (ℕ × Pins)) (shown : List OpenJob) (js : List (ℕ × Job)) → AllZip (ShowsJob disk keys schema count size had held) shown js → AllBelow count (numbers_written shown)
  written_below held [] [] z = λ n h. absurd (cc)
  written_below held (x ∷ xs) (j ∷ js) z = both_below (written_of x.work) (written_in xs) (work_below z.0.pins x.work j.1 z.0.work) (written_below held xs js z.1)
  written_below held [] (j ∷ js) z = absurd z
  written_below held (x ∷ xs) [] z = absurd z
