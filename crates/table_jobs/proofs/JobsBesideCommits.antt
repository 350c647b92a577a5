-- The jobs that are left beside one that commits: no number that they wrote is one of its own.
use Rattle.std.proofs.Common.{◌≡◌, ℕ, Bool, true, false, not, ◌==◌, if◌then◌else◌, List, [], ◌∷◌, ◌++◌, map, Some, refl, sym, ◌∙◌, ap, subst}
use Rattle.std.specs.List.{AllZip, list_all}
use Rattle.std.proofs.lemmas.Bool.{and_parts, and_from, false_from_ne_true as not_true}
use Rattle.std.proofs.lemmas.Option.{same_Some as some_is}
use Rattle.schema.specs.Shape.{Fields}
use Rattle.schema.specs.Cutting.{is_among}
use Rattle.schema.specs.Keys.{KeyColumn, AreDistinct}
use Rattle.disk.specs.State.{State as DiskState}
use Rattle.partition.specs.Splitting.{KeyRows, key_rows_view}
use Rattle.manifest.specs.Groups.{Group as FileGroup, handles_view, numbers_of}
use Rattle.snapshots.specs.State.{Pins}
use Rattle.table.specs.Table.{Row, Group}
use Rattle.table.specs.State.{Job, appending, rewriting}
use Rattle.table_state.specs.declared.jobs.OpenJob.{OpenJob}
use Rattle.table_state.specs.declared.jobs.Work.{Work}
use Rattle.table_state.specs.declared.jobs.Work.TheVariants.{Append, Rewrite}
use Rattle.planning.specs.declared.change.Sources.{Sources}
use Rattle.table_state.specs.Lookups.{job_at, jobs_left}
use Rattle.table_state.specs.Stands.{AreStored, AreWaiting, AreWritten, ShowsRun, ShowsJob, ShowsWork, written_of}
use Rattle.table_commits.proofs.DistinctNumbers.{Shares, among_first, among_later, among_front, among_back, shared_none, shared_back, distinct_back, none_joined}
use Rattle.table_commits.proofs.NumbersOfJobs.{numbers_written, numbers_first}

-- ---- numbers apart

module _ (n : ℕ) (x : OpenJob) where
  abbrev mine : List ℕ
  mine = numbers_of (written_of x.work)

  -- what it wrote is among what all wrote
  mine_among : (js : List OpenJob) → job_at n js ≡ Some x → (m : ℕ) → is_among mine m ≡ true → is_among (numbers_written js) m ≡ true
  mine_among [] there m h = absurd (cc)
  mine_among (j ∷ js) there m h = subst (λ (ns : List ℕ). is_among ns m ≡ true) (sym (numbers_first j js)) (by (j.number == n) (λ t. mine_among js t m h) there)
    where
      by : (b : Bool) → (job_at n js ≡ Some x → is_among (numbers_written js) m ≡ true) → (if b then Some j else job_at n js) ≡ Some x → is_among (numbers_of (written_of j.work) ++ numbers_written js) m ≡ true
      by true r t = among_front (numbers_of (written_of j.work)) (numbers_written js) m (subst (λ (k : OpenJob). is_among (numbers_of (written_of k.work)) m ≡ true) (sym (some_is j x t)) h)
      by false r t = among_back (numbers_of (written_of j.work)) (numbers_written js) m (r t)

  -- those of the others that are left are among those of all
  left_among : (js : List OpenJob) (m : ℕ) → is_among (numbers_written js) m ≡ false → is_among (numbers_written (jobs_left (Some n) js)) m ≡ false
  left_among [] m h = refl
  left_among (j ∷ js) m h =
      let here : is_among (numbers_of (written_of j.work) ++ numbers_written js) m ≡ false = subst (λ (ns : List ℕ). is_among ns m ≡ false) (numbers_first j js) h in
      let one = not_true (is_among (numbers_of (written_of j.work)) m) (λ e. unlike (is_among (numbers_of (written_of j.work) ++ numbers_written js) m) (among_front (numbers_of (written_of j.work)) (numbers_written js) m e) here) in
      let others = not_true (is_among (numbers_written js) m) (λ e. unlike (is_among (numbers_of (written_of j.work) ++ numbers_written js) m) (among_back (numbers_of (written_of j.work)) (numbers_written js) m e) here) in
      by (j.number == n) one (left_among js m others)
    where
      unlike : (b : Bool) → b ≡ true → b ≡ false → ⊥
      unlike b e f = let c : true ≡ false = sym e ∙ f in cc

      by : (b : Bool) → is_among (numbers_of (written_of j.work)) m ≡ false → is_among (numbers_written (jobs_left (Some n) js)) m ≡ false
          → is_among (numbers_written (if not b then j ∷ jobs_left (Some n) js else jobs_left (Some n) js)) m ≡ false
      by true one r = r
      by false one r = subst (λ (ns : List ℕ). is_among ns m ≡ false) (sym (numbers_first j (jobs_left (Some n) js))) (none_joined (numbers_of (written_of j.work)) (numbers_written (jobs_left (Some n) js)) m one r)

  pub own_apart : (js : List OpenJob) → job_at n js ≡ Some x → AreDistinct (numbers_written js) → Shares mine (numbers_written (jobs_left (Some n) js))
  own_apart [] there d = absurd (cc)
  own_apart (j ∷ js) there d =
      let here : AreDistinct (numbers_of (written_of j.work) ++ numbers_written js) = subst AreDistinct (numbers_first j js) d in
      let apart = shared_none (numbers_of (written_of j.work)) (numbers_written js) here in
      by (j.number == n) apart (λ t. own_apart js t (distinct_back (numbers_of (written_of j.work)) (numbers_written js) here)) there
    where
      by : (b : Bool) → Shares (numbers_of (written_of j.work)) (numbers_written js) → (job_at n js ≡ Some x → Shares mine (numbers_written (jobs_left (Some n) js))) → (if b then Some j else job_at n js) ≡ Some x
          → Shares mine (numbers_written (if not b then j ∷ jobs_left (Some n) js else jobs_left (Some n) js))
      by true apart r t m h =
          left_among js m (apart m (subst (λ (k : OpenJob). is_among (numbers_of (written_of k.work)) m ≡ true) (sym (some_is j x t)) h))
      by false apart r t m h = subst (λ (ns : List ℕ). is_among ns m ≡ false) (sym (numbers_first j (jobs_left (Some n) js)))
          (none_joined (numbers_of (written_of j.work)) (numbers_written (jobs_left (Some n) js)) m (shared_back (numbers_of (written_of j.work)) (numbers_written js) apart m (mine_among js t m h)) (r t m h))

-- ---- other numbers were had since, and none that these jobs wrote

module _ (disk : DiskState) (keys : List KeyColumn) (schema : Fields) (count size : ℕ) (had later : ℕ → Bool) where
  -- those that were not had are not had still
  abbrev Still : List ℕ → Type 0
  Still ns = (m : ℕ) → is_among ns m ≡ true → had m ≡ false → later m ≡ false

  first_still : (ns ms : List ℕ) → Still (ns ++ ms) → Still ns
  first_still ns ms s m h = s m (among_front ns ms m h)

  rest_still : (ns ms : List ℕ) → Still (ns ++ ms) → Still ms
  rest_still ns ms s m h = s m (among_back ns ms m h)

  not_false : (b : Bool) → not b ≡ true → b ≡ false
  not_false true e = absurd (cc)
  not_false false e = refl

  fresh_then : (files : List FileGroup) (groups : List Group) → AreStored disk keys schema count files groups → Still (numbers_of files) → list_all (λ (g : Group). not (had g.number)) groups ≡ true → list_all (λ (g : Group). not (later g.number)) groups ≡ true
  fresh_then [] [] z s e = refl
  fresh_then (f ∷ fs) (g ∷ gs) z s e =
      let p = and_parts (not (had g.number)) (list_all (λ (h : Group). not (had h.number)) gs) e in
      let one : later g.number ≡ false = s g.number (subst (λ (m : ℕ). is_among (numbers_of (f ∷ fs)) m ≡ true) (sym z.0.number) (among_first f.number (numbers_of fs))) (not_false (had g.number) p.0) in
      and_from (not (later g.number)) (list_all (λ (h : Group). not (later h.number)) gs) (ap not one) (fresh_then fs gs z.1 (λ m h. s m (among_later f.number (numbers_of fs) m h)) p.1)
  fresh_then [] (g ∷ gs) z s e = absurd z
  fresh_then (f ∷ fs) [] z s e = absurd z

  written_then : (pins : Pins) (files : List FileGroup) (groups : List Group) → Still (numbers_of files) → AreWritten disk keys schema count size had pins files groups → AreWritten disk keys schema count size later pins files groups
  written_then pins files groups s are = record { stored = are.stored; described = are.described; held = are.held; full = are.full; fresh = fresh_then files groups are.stored s are.fresh }

  waiting_then : (ws : List KeyRows) (given : List (List Row)) → AllZip (AreWaiting disk keys schema count size had) ws given → AllZip (AreWaiting disk keys schema count size later) ws given
  waiting_then [] [] z = tt
  waiting_then (w ∷ ws) (rs ∷ rss) z = (record { can = z.0.can; are = z.0.are; fit = z.0.fit; some = z.0.some; few = z.0.few }, waiting_then ws rss z.1)
  waiting_then [] (rs ∷ rss) z = absurd z
  waiting_then (w ∷ ws) [] z = absurd z

  run_then : (pins : Pins) (shown : Sources) (run : List Group) → ShowsRun disk keys schema count size had pins shown run → ShowsRun disk keys schema count size later pins shown run
  run_then pins shown run is = record { sources = is.sources; described = is.described; held = is.held; key = is.key; keyed = is.keyed }

  runs_then : (pins : Pins) (shown : List Sources) (runs : List (List Group)) → AllZip (ShowsRun disk keys schema count size had pins) shown runs → AllZip (ShowsRun disk keys schema count size later pins) shown runs
  runs_then pins [] [] z = tt
  runs_then pins (x ∷ xs) (r ∷ rs) z = (run_then pins x r z.0, runs_then pins xs rs z.1)
  runs_then pins [] (r ∷ rs) z = absurd z
  runs_then pins (x ∷ xs) [] z = absurd z

  work_then : (pins : Pins) (w : Work) (j : Job) → Still (numbers_of (written_of w)) → ShowsWork disk keys schema count size had pins w j → ShowsWork disk keys schema count size later pins w j
  work_then pins (Append a) (appending staged) s is = record {
    groups = is.groups;
    are_written = written_then pins (handles_view a.written.items) is.groups s is.are_written;
    waiting = is.waiting;
    are_waiting = waiting_then (map key_rows_view a.waiting.items) is.waiting is.are_waiting;
    rising = is.rising;
    free = is.free;
    all = is.all;
  }
  work_then pins (Rewrite r) (rewriting runs unread) s is = record { each = runs_then pins r.runs.items runs is.each; as_many = is.as_many; read = is.read; left = is.left; pinned = is.pinned }
  work_then pins (Append a) (rewriting runs unread) s is = absurd is
  work_then pins (Rewrite r) (appending staged) s is = absurd is

  pub jobs_then : (held : List (ℕ × Pins)) (shown : List OpenJob) (js : List (ℕ × Job)) → Still (numbers_written shown) → AllZip (ShowsJob disk keys schema count size had held) shown js → AllZip (ShowsJob disk keys schema count size later held) shown js
  jobs_then held [] [] s z = tt
  jobs_then held (x ∷ xs) (j ∷ js) s z =
      let t = subst (λ (ns : List ℕ). Still ns) (numbers_first x xs) s in (
        record { number = z.0.number; pins = z.0.pins; pinned = z.0.pinned; work = work_then z.0.pins x.work j.1 (first_still (numbers_of (written_of x.work)) (numbers_written xs) t) z.0.work },
        jobs_then held xs js (rest_still (numbers_of (written_of x.work)) (numbers_written xs) t) z.1,
      )
  jobs_then held [] (j ∷ js) s z = absurd z
  jobs_then held (x ∷ xs) [] s z = absurd z
