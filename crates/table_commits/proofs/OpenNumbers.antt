-- The numbers of what is open.
use Rattle.std.proofs.Common.{◌≡◌, ◌<◌, ℕ, Bool, true, false, not, ◌==◌, if◌then◌else◌, List, [], ◌∷◌, ◌++◌, map, filter, reverse, Some, None, refl, sym, ◌∙◌, ap, subst}
use Rattle.std.specs.Prelude.{Option}
use Rattle.std.specs.List.{AllZip}
use Rattle.std.proofs.lemmas.List.{reverse-append}
use Rattle.std.proofs.lemmas.List.Elements.{filter-append}
use Rattle.schema.specs.Shape.{Fields}
use Rattle.schema.specs.Keys.{KeyColumn, AreDistinct}
use Rattle.disk.specs.State.{State as DiskState}
use Rattle.manifest.specs.Groups.{Group as FileGroup}
use Rattle.snapshots.specs.State.{Pins, ended_at, jobs_without}
use Rattle.table.specs.Cursors.{Cursor}
use Rattle.table.specs.State.{Job}
use Rattle.table_state.specs.declared.jobs.OpenJob.{OpenJob}
use Rattle.table_state.specs.declared.jobs.OpenCursor.{OpenCursor}
use Rattle.table_state.specs.Lookups.{jobs_left, cursors_left}
use Rattle.table_state.specs.Stands.{AreNumbered, TracksJobs, TracksCursors, ShowsJob, ShowsCursor, numbers_at, job_numbers, cursor_numbers}
use Rattle.table_commits.proofs.SomeGroups.{all_kept, distinct_kept}

-- all but one number
abbrev pub without : ℕ → List ℕ → List ℕ
without n ns = filter (λ (m : ℕ). not (m == n)) ns

backwards : (p : ℕ → Bool) (ns : List ℕ) → filter p (reverse ns) ≡ reverse (filter p ns)
backwards p [] = refl
backwards p (n ∷ ns) =
    ap (filter p) (reverse-append (n ∷ []) ns) ∙ filter-append p (reverse ns) (n ∷ []) ∙ ap (λ (ms : List ℕ). ms ++ filter p (n ∷ [])) (backwards p ns) ∙ by (p n)
  where
    by : (b : Bool) → reverse (filter p ns) ++ (if b then n ∷ [] else []) ≡ reverse (if b then n ∷ filter p ns else filter p ns)
    by true = sym (reverse-append (n ∷ []) (filter p ns))
    by false = nothing (reverse (filter p ns))
      where
        nothing : (ms : List ℕ) → ms ++ [] ≡ ms
        nothing [] = refl
        nothing (m ∷ ms) = ap (λ (ks : List ℕ). m ∷ ks) (nothing ms)

-- ---- what is left without one

held_without : {A : Type 0} (n : ℕ) (xs : List (ℕ × A)) → numbers_at (ended_at n xs) ≡ without n (numbers_at xs)
held_without n [] = refl
held_without n (x ∷ xs) = by (x.0 == n) (held_without n xs)
  where
    by : (b : Bool) → numbers_at (ended_at n xs) ≡ without n (numbers_at xs) → numbers_at (if b then ended_at n xs else x ∷ ended_at n xs) ≡ (if not b then x.0 ∷ without n (numbers_at xs) else without n (numbers_at xs))
    by true e = e
    by false e = ap (λ (ns : List ℕ). x.0 ∷ ns) e

jobs_without_one : (n : ℕ) (js : List OpenJob) → job_numbers (jobs_left (Some n) js) ≡ without n (job_numbers js)
jobs_without_one n [] = refl
jobs_without_one n (j ∷ js) = by (not (j.number == n)) (jobs_without_one n js)
  where
    by : (b : Bool) → job_numbers (jobs_left (Some n) js) ≡ without n (job_numbers js) → job_numbers (if b then j ∷ jobs_left (Some n) js else jobs_left (Some n) js) ≡ (if b then j.number ∷ without n (job_numbers js) else without n (job_numbers js))
    by true e = ap (λ (ns : List ℕ). j.number ∷ ns) e
    by false e = e

cursors_without_one : (n : ℕ) (cs : List OpenCursor) → cursor_numbers (cursors_left n cs) ≡ without n (cursor_numbers cs)
cursors_without_one n [] = refl
cursors_without_one n (c ∷ cs) = by (not (c.number == n)) (cursors_without_one n cs)
  where
    by : (b : Bool) → cursor_numbers (cursors_left n cs) ≡ without n (cursor_numbers cs) → cursor_numbers (if b then c ∷ cursors_left n cs else cursors_left n cs) ≡ (if b then c.number ∷ without n (cursor_numbers cs) else without n (cursor_numbers cs))
    by true e = ap (λ (ns : List ℕ). c.number ∷ ns) e
    by false e = e

pub tracks_left : (job : Option ℕ) (held : List (ℕ × Pins)) (shown : List OpenJob) → TracksJobs held shown → TracksJobs (jobs_without job held) (jobs_left job shown)
tracks_left None held shown t = t
tracks_left (Some n) held shown t = held_without n held ∙ ap (without n) t ∙ backwards (λ (m : ℕ). not (m == n)) (job_numbers shown) ∙ ap (λ (ns : List ℕ). reverse ns) (sym (jobs_without_one n shown))

pub tracks_cursors_left : (n : ℕ) (held : List (ℕ × List FileGroup)) (shown : List OpenCursor) → TracksCursors held shown → TracksCursors (ended_at n held) (cursors_left n shown)
tracks_cursors_left n held shown t = held_without n held ∙ ap (without n) t ∙ backwards (λ (m : ℕ). not (m == n)) (cursor_numbers shown) ∙ ap (λ (ns : List ℕ). reverse ns) (sym (cursors_without_one n shown))

pub numbered_without : (count n : ℕ) (ns : List ℕ) → AreNumbered count ns → AreNumbered count (without n ns)
numbered_without count n ns is = record {
  below = all_kept (λ (m : ℕ). not (m == n)) (λ (m : ℕ). m < count) ns is.below;
  distinct = subst (λ (ms : List ℕ). AreDistinct ms) (same (without n ns)) (distinct_kept (λ (m : ℕ). not (m == n)) (λ (m : ℕ). m) ns (subst (λ (ms : List ℕ). AreDistinct ms) (sym (same ns)) is.distinct));
}
  where
    same : (ms : List ℕ) → map (λ (m : ℕ). m) ms ≡ ms
    same [] = refl
    same (m ∷ ms) = ap (λ (ks : List ℕ). m ∷ ks) (same ms)

pub numbered_left : (count : ℕ) (job : Option ℕ) (shown : List OpenJob) → AreNumbered count (job_numbers shown) → AreNumbered count (job_numbers (jobs_left job shown))
numbered_left count None shown is = is
numbered_left count (Some n) shown is = subst (λ (ns : List ℕ). AreNumbered count ns) (sym (jobs_without_one n shown)) (numbered_without count n (job_numbers shown) is)

pub numbered_cursors_left : (count n : ℕ) (shown : List OpenCursor) → AreNumbered count (cursor_numbers shown) → AreNumbered count (cursor_numbers (cursors_left n shown))
numbered_cursors_left count n shown is = subst (λ (ns : List ℕ). AreNumbered count ns) (sym (cursors_without_one n shown)) (numbered_without count n (cursor_numbers shown) is)

-- what is shown has the same numbers
pub numbers_shown : (disk : DiskState) (keys : List KeyColumn) (schema : Fields) (count size : ℕ) (had : ℕ → Bool) (held : List (ℕ × Pins)) (shown : List OpenJob) (js : List (ℕ × Job))
    → AllZip (ShowsJob disk keys schema count size had held) shown js → job_numbers shown ≡ numbers_at js
numbers_shown disk keys schema count size had held [] [] z = refl
numbers_shown disk keys schema count size had held (x ∷ xs) (j ∷ js) z = ap (λ (n : ℕ). n ∷ job_numbers xs) z.0.number ∙ ap (λ (ns : List ℕ). j.0 ∷ ns) (numbers_shown disk keys schema count size had held xs js z.1)
numbers_shown disk keys schema count size had held [] (j ∷ js) z = absurd z
numbers_shown disk keys schema count size had held (x ∷ xs) [] z = absurd z

pub cursor_numbers_shown : (disk : DiskState) (held : List (ℕ × List FileGroup)) (keys : List KeyColumn) (count : ℕ) (shown : List OpenCursor) (cs : List (ℕ × Cursor))
    → AllZip (ShowsCursor disk held keys count) shown cs → cursor_numbers shown ≡ numbers_at cs
cursor_numbers_shown disk held keys count [] [] z = refl
cursor_numbers_shown disk held keys count (x ∷ xs) (c ∷ cs) z = ap (λ (n : ℕ). n ∷ cursor_numbers xs) z.0.number ∙ ap (λ (ns : List ℕ). c.0 ∷ ns) (cursor_numbers_shown disk held keys count xs cs z.1)
cursor_numbers_shown disk held keys count [] (c ∷ cs) z = absurd z
cursor_numbers_shown disk held keys count (x ∷ xs) [] z = absurd z
