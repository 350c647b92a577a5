-- What is open, after something was opened or ended.
use Rattle.std.proofs.Common.{◌≡◌, ◌<◌, ◌+◌, ℕ, Bool, true, false, not, ◌||◌, ◌==◌, if◌then◌else◌, List, [], ◌∷◌, ◌++◌, reverse, Option, Some, None, refl, sym, ◌∙◌, ap, subst, arith, true≢false as bad}
use Rattle.std.specs.List.{AllZip, AllByRecursion}
use Rattle.std.proofs.lemmas.Bool.{eqb-true}
use Rattle.std.proofs.lemmas.List.{reverse-append}
use Rattle.schema.specs.Shape.{Fields}
use Rattle.schema.specs.Cutting.{is_among}
use Rattle.schema.specs.Keys.{KeyColumn, AreDistinct}
use Rattle.disk.specs.State.{State as DiskState}
use Rattle.manifest.specs.Groups.{Group as FileGroup}
use Rattle.snapshots.specs.State.{Pins, open_at, ended_at}
use Rattle.table.specs.Cursors.{Cursor}
use Rattle.table.specs.State.{Job, open_at as state_at, ended_at as state_without}
use Rattle.table_state.specs.declared.jobs.OpenJob.{OpenJob}
use Rattle.table_state.specs.declared.jobs.OpenCursor.{OpenCursor}
use Rattle.table_state.specs.Lookups.{job_at, jobs_left, cursors_left}
use Rattle.table_state.specs.Stands.{AreNumbered, TracksJobs, TracksCursors, ShowsJob, ShowsCursor, job_numbers, cursor_numbers}

-- ---- look-ups

-- another number than the newest
other_number : (n m : ℕ) → m < n → (n == m) ≡ false
other_number n m low = by (n == m) refl
  where
    by : (b : Bool) → (n == m) ≡ b → (n == m) ≡ false
    by true e = let same = eqb-true n m e in absurd (omega (arith, same, low))
    by false e = e

pub beside : {A : Type 0} (n m : ℕ) (a : A) (xs : List (ℕ × A)) → m < n → open_at m ((n, a) ∷ xs) ≡ open_at m xs
beside n m a xs low = ap (λ (b : Bool). if b then Some a else open_at m xs) (other_number n m low)

apart : (k m n : ℕ) → (k == n) ≡ true → (m == n) ≡ false → (k == m) ≡ false
apart k m n e f = by (k == m) refl
  where
    by : (b : Bool) → (k == m) ≡ b → (k == m) ≡ false
    by true g = absurd (bad (sym (ap (λ (i : ℕ). i == n) (sym (eqb-true k m g)) ∙ e) ∙ f))
    by false g = g

pub ended_other : {A : Type 0} (n m : ℕ) (xs : List (ℕ × A)) → (m == n) ≡ false → open_at m (ended_at n xs) ≡ open_at m xs
ended_other n m [] e = refl
ended_other n m (y ∷ ys) e = by (y.0 == n) refl (ended_other n m ys e)
  where
    by : (b : Bool) → (y.0 == n) ≡ b → open_at m (ended_at n ys) ≡ open_at m ys → open_at m (if b then ended_at n ys else y ∷ ended_at n ys) ≡ (if y.0 == m then Some y.1 else open_at m ys)
    by true f r = r ∙ ap (λ (c : Bool). if c then Some y.1 else open_at m ys) (sym (apart y.0 m n f e))
    by false f r = ap (λ (o : Option _). if y.0 == m then Some y.1 else o) r

-- ---- lists that are one longer

pub zip_more : {A B : Type 0} (P : A → B → Type 0) (xs : List A) (ys : List B) (x : A) (y : B) → AllZip P xs ys → P x y → AllZip P (xs ++ x ∷ []) (ys ++ y ∷ [])
zip_more P [] [] x y z p = (p, tt)
zip_more P (a ∷ xs) (b ∷ ys) x y z p = (z.0, zip_more P xs ys x y z.1 p)
zip_more P [] (b ∷ ys) x y z p = absurd z
zip_more P (a ∷ xs) [] x y z p = absurd z

not_among : (ns : List ℕ) (n count : ℕ) → AllByRecursion (λ m. m < count) ns → is_among ns n ≡ false → n < count → is_among (ns ++ count ∷ []) n ≡ false
not_among [] n count below e low = ap (λ (b : Bool). b || false) (other_number count n low)
not_among (m ∷ ns) n count below e low = by (m == n) e (not_among ns n count below.1)
  where
    by : (b : Bool) → (b || is_among ns n) ≡ false → (is_among ns n ≡ false → n < count → is_among (ns ++ count ∷ []) n ≡ false) → (b || is_among (ns ++ count ∷ []) n) ≡ false
    by true f rest = absurd (bad f)
    by false f rest = rest f low

pub numbered_more : (count : ℕ) (ns : List ℕ) → AreNumbered count ns → AreNumbered (count + 1) (ns ++ count ∷ [])
numbered_more count ns is = record { below = low ns is.below; distinct = parted ns is.below is.distinct }
  where
    low : (ms : List ℕ) → AllByRecursion (λ m. m < count) ms → AllByRecursion (λ m. m < count + 1) (ms ++ count ∷ [])
    low [] h = (omega arith, tt)
    low (m ∷ ms) h = (let l = h.0 in omega (arith, l), low ms h.1)

    parted : (ms : List ℕ) → AllByRecursion (λ m. m < count) ms → AreDistinct ms → AreDistinct (ms ++ count ∷ [])
    parted [] h d = (refl, tt)
    parted (m ∷ ms) h d = (not_among ms m count h.1 d.0 h.0, parted ms h.1 d.1)

numbers_more : (xs ys : List OpenJob) → job_numbers (xs ++ ys) ≡ job_numbers xs ++ job_numbers ys
numbers_more [] ys = refl
numbers_more (x ∷ xs) ys = ap (λ (ns : List ℕ). x.number ∷ ns) (numbers_more xs ys)

cursors_more : (xs ys : List OpenCursor) → cursor_numbers (xs ++ ys) ≡ cursor_numbers xs ++ cursor_numbers ys
cursors_more [] ys = refl
cursors_more (x ∷ xs) ys = ap (λ (ns : List ℕ). x.number ∷ ns) (cursors_more xs ys)

pub tracks_more : (held : List (ℕ × Pins)) (shown : List OpenJob) (pins : Pins) (x : OpenJob) → TracksJobs held shown → TracksJobs ((x.number, pins) ∷ held) (shown ++ x ∷ [])
tracks_more held shown pins x t = ap (λ (ns : List ℕ). x.number ∷ ns) t ∙ sym (ap (λ (ns : List ℕ). reverse ns) (numbers_more shown (x ∷ [])) ∙ reverse-append (job_numbers shown) (x.number ∷ []))

pub tracks_cursors_more : (held : List (ℕ × List FileGroup)) (shown : List OpenCursor) (version : List FileGroup) (x : OpenCursor) → TracksCursors held shown → TracksCursors ((x.number, version) ∷ held) (shown ++ x ∷ [])
tracks_cursors_more held shown version x t = ap (λ (ns : List ℕ). x.number ∷ ns) t ∙ sym (ap (λ (ns : List ℕ). reverse ns) (cursors_more shown (x ∷ [])) ∙ reverse-append (cursor_numbers shown) (x.number ∷ []))

-- ---- jobs

module _ (disk : DiskState) (keys : List KeyColumn) (schema : Fields) (count size : ℕ) (had : ℕ → Bool) where
  abbrev Shown : List (ℕ × Pins) → OpenJob → ℕ × Job → Type 0
  Shown held x j = ShowsJob disk keys schema count size had held x j

  moved : (held other : List (ℕ × Pins)) (x : OpenJob) (j : ℕ × Job) → open_at x.number other ≡ open_at x.number held → Shown held x j → Shown other x j
  moved held other x j e z = record { number = z.number; pins = z.pins; pinned = e ∙ z.pinned; work = z.work }

  -- beside a newer one
  pub jobs_beside : (n : ℕ) (pins : Pins) (held : List (ℕ × Pins)) (shown : List OpenJob) (js : List (ℕ × Job)) → AllByRecursion (λ m. m < n) (job_numbers shown) → AllZip (Shown held) shown js → AllZip (Shown ((n, pins) ∷ held)) shown js
  jobs_beside n pins held [] [] low z = tt
  jobs_beside n pins held (x ∷ xs) (j ∷ js) low z = (moved held ((n, pins) ∷ held) x j (beside n x.number pins held low.0) z.0, jobs_beside n pins held xs js low.1 z.1)
  jobs_beside n pins held [] (j ∷ js) low z = absurd z
  jobs_beside n pins held (x ∷ xs) [] low z = absurd z

  -- without one
  pub jobs_left_shown : (n : ℕ) (held : List (ℕ × Pins)) (shown : List OpenJob) (js : List (ℕ × Job)) → AllZip (Shown held) shown js → AllZip (Shown (ended_at n held)) (jobs_left (Some n) shown) (state_without n js)
  jobs_left_shown n held [] [] z = tt
  jobs_left_shown n held (x ∷ xs) (j ∷ js) z =
      subst (λ (m : ℕ). AllZip (Shown (ended_at n held)) (jobs_left (Some n) (x ∷ xs)) (if not (m == n) then j ∷ state_without n js else state_without n js)) z.0.number
      (by (x.number == n) refl (jobs_left_shown n held xs js z.1))
    where
      by : (b : Bool) → (x.number == n) ≡ b → AllZip (Shown (ended_at n held)) (jobs_left (Some n) xs) (state_without n js)
          → AllZip (Shown (ended_at n held)) (if not b then x ∷ jobs_left (Some n) xs else jobs_left (Some n) xs) (if not b then j ∷ state_without n js else state_without n js)
      by true e r = r
      by false e r = (moved held (ended_at n held) x j (ended_other n x.number held e) z.0, r)
  jobs_left_shown n held [] (j ∷ js) z = absurd z
  jobs_left_shown n held (x ∷ xs) [] z = absurd z

  -- one that is looked up
  abbrev IsFound : List (ℕ × Pins) → ℕ → OpenJob → Option Job → Type 0
  IsFound held n x there = (k : Job) × (there ≡ Some k) × Shown held x (n, k)

  found_here : (n : ℕ) (held : List (ℕ × Pins)) (y x : OpenJob) (j : ℕ × Job) → y ≡ x → y.number ≡ n → Shown held y j → Shown held x (n, j.1)
  found_here n held y x j same e z = subst (λ (w : OpenJob). Shown held w (n, j.1)) same (record { number = e; pins = z.pins; pinned = z.pinned; work = z.work })

  some_same : (y x : OpenJob) → Some y ≡ Some x → y ≡ x
  some_same y x e = cc

  found_next : (n : ℕ) (held : List (ℕ × Pins)) (y x : OpenJob) (j : ℕ × Job) (at : Option OpenJob) (there : Option Job) → Shown held y j → (at ≡ Some x → IsFound held n x there) → (b : Bool) → (y.number == n) ≡ b
      → (if b then Some y else at) ≡ Some x → IsFound held n x (if b then Some j.1 else there)
  found_next n held y x j at there z rest true f g = (j.1, refl, found_here n held y x j (some_same y x g) (eqb-true y.number n f) z)
  found_next n held y x j at there z rest false f g = rest g

  pub job_found : (n : ℕ) (held : List (ℕ × Pins)) (shown : List OpenJob) (js : List (ℕ × Job)) → AllZip (Shown held) shown js → (x : OpenJob) → job_at n shown ≡ Some x → IsFound held n x (state_at n js)
  job_found n held [] [] z x e = absurd (cc)
  job_found n held (y ∷ ys) (j ∷ js) z x e =
      subst (λ (m : ℕ). IsFound held n x (if m == n then Some j.1 else state_at n js)) z.0.number
      (found_next n held y x j (job_at n ys) (state_at n js) z.0 (job_found n held ys js z.1 x) (y.number == n) refl e)
  job_found n held [] (j ∷ js) z x e = absurd z
  job_found n held (y ∷ ys) [] z x e = absurd z

  pub job_not_found : (n : ℕ) (held : List (ℕ × Pins)) (shown : List OpenJob) (js : List (ℕ × Job)) → AllZip (Shown held) shown js → job_at n shown ≡ None → state_at n js ≡ None
  job_not_found n held [] [] z e = refl
  job_not_found n held (y ∷ ys) (j ∷ js) z e = subst (λ (m : ℕ). (if m == n then Some j.1 else state_at n js) ≡ None) z.0.number (by (y.number == n) (job_not_found n held ys js z.1) e)
    where
      by : (b : Bool) → (job_at n ys ≡ None → state_at n js ≡ None) → (if b then Some y else job_at n ys) ≡ None → (if b then Some j.1 else state_at n js) ≡ None
      by true rest g = absurd (cc)
      by false rest g = rest g
  job_not_found n held [] (j ∷ js) z e = absurd z
  job_not_found n held (y ∷ ys) [] z e = absurd z

-- ---- cursors

module _ (disk : DiskState) (keys : List KeyColumn) (count : ℕ) where
  abbrev Seen : List (ℕ × List FileGroup) → OpenCursor → ℕ × Cursor → Type 0
  Seen held x c = ShowsCursor disk held keys count x c

  moved_cursor : (held other : List (ℕ × List FileGroup)) (x : OpenCursor) (c : ℕ × Cursor) → open_at x.number other ≡ open_at x.number held → Seen held x c → Seen other x c
  moved_cursor held other x c e z = record { number = z.number; pinned = e ∙ z.pinned; keyed = z.keyed; made = z.made; groups = z.groups; stored = z.stored; batches = z.batches; ended = z.ended; over = z.over }

  pub cursors_beside : (n : ℕ) (version : List FileGroup) (held : List (ℕ × List FileGroup)) (shown : List OpenCursor) (cs : List (ℕ × Cursor)) → AllByRecursion (λ m. m < n) (cursor_numbers shown) → AllZip (Seen held) shown cs
      → AllZip (Seen ((n, version) ∷ held)) shown cs
  cursors_beside n version held [] [] low z = tt
  cursors_beside n version held (x ∷ xs) (c ∷ cs) low z = (moved_cursor held ((n, version) ∷ held) x c (beside n x.number version held low.0) z.0, cursors_beside n version held xs cs low.1 z.1)
  cursors_beside n version held [] (c ∷ cs) low z = absurd z
  cursors_beside n version held (x ∷ xs) [] low z = absurd z

  pub cursors_left_shown : (n : ℕ) (held : List (ℕ × List FileGroup)) (shown : List OpenCursor) (cs : List (ℕ × Cursor)) → AllZip (Seen held) shown cs → AllZip (Seen (ended_at n held)) (cursors_left n shown) (state_without n cs)
  cursors_left_shown n held [] [] z = tt
  cursors_left_shown n held (x ∷ xs) (c ∷ cs) z =
      subst (λ (m : ℕ). AllZip (Seen (ended_at n held)) (cursors_left n (x ∷ xs)) (if not (m == n) then c ∷ state_without n cs else state_without n cs)) z.0.number
      (by (x.number == n) refl (cursors_left_shown n held xs cs z.1))
    where
      by : (b : Bool) → (x.number == n) ≡ b → AllZip (Seen (ended_at n held)) (cursors_left n xs) (state_without n cs)
          → AllZip (Seen (ended_at n held)) (if not b then x ∷ cursors_left n xs else cursors_left n xs) (if not b then c ∷ state_without n cs else state_without n cs)
      by true e r = r
      by false e r = (moved_cursor held (ended_at n held) x c (ended_other n x.number held e) z.0, r)
  cursors_left_shown n held [] (c ∷ cs) z = absurd z
  cursors_left_shown n held (x ∷ xs) [] z = absurd z
