-- Jobs that are left by a commit whose groups have numbers that were had, or that came after the jobs' own.
use Rattle.std.proofs.Common.{◌≡◌, ◌≤◌, ◌<◌, ◌⊎◌, ℕ, Bool, true, false, ◌||◌, List, refl, sym, ◌∙◌, arith, ⊎_elim}
use Rattle.std.specs.List.{AllZip}
use Rattle.schema.specs.Shape.{Fields}
use Rattle.schema.specs.Cutting.{is_among}
use Rattle.schema.specs.Keys.{KeyColumn}
use Rattle.disk.specs.State.{State as DiskState}
use Rattle.snapshots.specs.State.{State as Versions}
use Rattle.table.specs.Table.{Table, numbers}
use Rattle.table.specs.State.{Job, had_with}
use Rattle.table_state.specs.declared.jobs.OpenJob.{OpenJob}
use Rattle.table_state.specs.Stands.{ShowsJob}
use Rattle.table_commits.proofs.SparedDisks.{spares_here}
use Rattle.table_commits.proofs.StoredStays.{jobs_on, hold_same}

module _ (disk : DiskState) (keys : List KeyColumn) (schema : Fields) (floor count size : ℕ) (low : floor ≤ count) (had : ℕ → Bool) (t : Table)
    (fresh : (n : ℕ) → is_among (numbers t.groups) n ≡ true → (had n ≡ true) ⊎ (floor ≤ n)) where
  keeps : (n : ℕ) → n < floor → had n ≡ false → had_with t had n ≡ false
  keeps n under e = by (is_among (numbers t.groups) n) refl
    where
      by : (b : Bool) → is_among (numbers t.groups) n ≡ b → (b || had n) ≡ false
      by false f = e
      by true f = absurd (⊎_elim (λ (h : had n ≡ true). let g : true ≡ false = sym h ∙ e in cc) (λ le. omega (arith, le, under)) (fresh n f))

  pub jobs_left_so : (versions : Versions) (shown : List OpenJob) (js : List (ℕ × Job)) → AllZip (ShowsJob disk keys schema floor size had versions.jobs) shown js
      → AllZip (ShowsJob disk keys schema count size (had_with t had) versions.jobs) shown js
  jobs_left_so versions shown js z =
      jobs_on keys schema floor count size low had (had_with t had) keeps versions versions (λ q. Unit {0}) (λ f below held. tt) disk disk (spares_here keys (λ q. Unit {0}) disk)
      (hold_same versions.jobs versions.jobs refl) shown js z
