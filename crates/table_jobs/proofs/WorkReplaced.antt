-- One job's work in place of what it was.
use Rattle.std.proofs.Common.{◌≡◌, ◌≤◌, ◌<◌, ℕ, zero, suc, Bool, true, false, ◌==◌, List, [], ◌∷◌, ◌++◌, take, length, get_or, slice_index_or, Some, None, refl, sym, ◌∙◌, ap, subst, arith, eq-eqb}
use Rattle.std.proofs.lemmas.Bool.{eqb-true}
use Rattle.std.specs.Prelude.{if◌then◌else◌, slice_set}
use Rattle.std.specs.List.{AllByRecursion}
use Rattle.table_state.specs.declared.jobs.OpenJob.{OpenJob}
use Rattle.table_state.specs.declared.jobs.Work.{Work}
use Rattle.schema.specs.Keys.{AreDistinct}
use Rattle.schema.specs.Cutting.{is_among}
use Rattle.table_state.specs.Lookups.{job_at, jobs_with}
use Rattle.table_state.specs.Stands.{job_numbers}
use Rattle.table_jobs.specs.Completing.{with_work}
use Rattle.table_commits.proofs.JobsChanged.{none_changed}

module _ (n : ℕ) (w : Work) where
  abbrev Before : List OpenJob → Type 0
  Before xs = AllByRecursion (λ (j : OpenJob). (j.number == n) ≡ false) xs

  abbrev worked : ℕ → OpenJob
  worked m = record { number = m; work = w }

  pub put_here : (xs : List OpenJob) (i : ℕ) (d x : OpenJob) → i < length xs → x ≡ get_or xs i x → x.number ≡ n → Before (take i xs) → slice_set xs i (worked (slice_index_or xs i d).number) ≡ with_work n w xs
  put_here [] i d x low is e h = absurd (omega (arith, low))
  put_here (y ∷ ys) zero d x low is e h =
      sym (ap (λ (b : Bool). if b then worked y.number ∷ ys else y ∷ with_work n w ys) (eq-eqb y.number n (sym (ap (λ (z : OpenJob). z.number) is) ∙ e)))
  put_here (y ∷ ys) (suc i) d x low is e h =
      ap (λ (zs : List OpenJob). y ∷ zs) (put_here ys i d x (omega (arith, low)) is e h.1) ∙ sym (ap (λ (b : Bool). if b then worked y.number ∷ ys else y ∷ with_work n w ys) h.0)

  pub put_none : (xs : List OpenJob) (i : ℕ) → length xs ≤ i → Before (take i xs) → xs ≡ with_work n w xs
  put_none [] i le h = refl
  put_none (y ∷ ys) zero le h = absurd (omega (arith, le))
  put_none (y ∷ ys) (suc i) le h = ap (λ (zs : List OpenJob). y ∷ zs) (put_none ys i (omega (arith, le)) h.1) ∙ sym (ap (λ (b : Bool). if b then worked y.number ∷ ys else y ∷ with_work n w ys) h.0)

  -- where no two jobs have one number
  pub put_changes : (xs : List OpenJob) → AreDistinct (job_numbers xs) → with_work n w xs ≡ jobs_with (worked n) xs
  put_changes [] d = refl
  put_changes (y ∷ ys) d = by (y.number == n) refl (put_changes ys d.1)
    where
      by : (b : Bool) → (y.number == n) ≡ b → with_work n w ys ≡ jobs_with (worked n) ys → (if b then worked y.number ∷ ys else y ∷ with_work n w ys) ≡ (if b then worked n else y) ∷ jobs_with (worked n) ys
      by true e r =
          let same : y.number ≡ n = eqb-true y.number n e in
          ap (λ (m : ℕ). worked m ∷ ys) same ∙ ap (λ (zs : List OpenJob). worked n ∷ zs) (sym (none_changed (worked n) ys (subst (λ (m : ℕ). is_among (job_numbers ys) m ≡ false) same d.0)))
      by false e r = ap (λ (zs : List OpenJob). y ∷ zs) r

  same_long : (xs : List OpenJob) → length (with_work n w xs) ≡ length xs
  same_long [] = refl
  same_long (x ∷ xs) = by (x.number == n) (same_long xs)
    where
      by : (b : Bool) → length (with_work n w xs) ≡ length xs → length (if b then worked x.number ∷ xs else x ∷ with_work n w xs) ≡ length (x ∷ xs)
      by true r = omega arith
      by false r = omega (arith, r)

-- the first of a number, where none of those before has it
module _ (n : ℕ) where
  pub found_at : (xs : List OpenJob) (i : ℕ) (x : OpenJob) → i < length xs → x ≡ get_or xs i x → x.number ≡ n → AllByRecursion (λ (j : OpenJob). (j.number == n) ≡ false) (take i xs) → job_at n xs ≡ Some x
  found_at [] i x low is e h = absurd (omega (arith, low))
  found_at (y ∷ ys) zero x low is e h =
      ap (λ (b : Bool). if b then Some y else job_at n ys) (eq-eqb y.number n (sym (ap (λ (z : OpenJob). z.number) is) ∙ e)) ∙ ap (λ (z : OpenJob). Some z) (sym is)
  found_at (y ∷ ys) (suc i) x low is e h = ap (λ (b : Bool). if b then Some y else job_at n ys) h.0 ∙ found_at ys i x (omega (arith, low)) is e h.1

  pub found_none : (xs : List OpenJob) (i : ℕ) → length xs ≤ i → AllByRecursion (λ (j : OpenJob). (j.number == n) ≡ false) (take i xs) → job_at n xs ≡ None
  found_none [] i le h = refl
  found_none (y ∷ ys) zero le h = absurd (omega (arith, le))
  found_none (y ∷ ys) (suc i) le h = ap (λ (b : Bool). if b then Some y else job_at n ys) h.0 ∙ found_none ys i (omega (arith, le)) h.1

taken : (xs ys : List OpenJob) → take (length xs) (xs ++ ys) ≡ xs
taken [] ys = refl
taken (x ∷ xs) ys = ap (λ (zs : List OpenJob). x ∷ zs) (taken xs ys)

-- the vector that a slice was lent of
pub put_back : (n : ℕ) (w : Work) (len : ℕ) (items lent new rest : List OpenJob) → len ≡ length items → lent ≡ items → new ≡ with_work n w lent → take len (new ++ rest) ≡ with_work n w items
put_back n w len items lent new rest many same is =
    let all : new ≡ with_work n w items = is ∙ ap (λ (xs : List OpenJob). with_work n w xs) same in
    let long : len ≡ length new = many ∙ sym (same_long n w items) ∙ sym (ap (λ (xs : List OpenJob). length xs) all) in
    ap (λ (k : ℕ). take k (new ++ rest)) long ∙ taken new rest ∙ all
