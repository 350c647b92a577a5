-- Runs that are read and written, one after another.
use Rattle.std.proofs.Common.{◌≡◌, ◌≤◌, ◌+◌, ℕ, suc, List, [], ◌∷◌, ◌++◌, length, drop, Option, Some, refl, sym, ◌∙◌, ap, subst, arith, append_assoc}
use Rattle.std.specs.Prelude.{Contains, Result, Ok, Err, IfOk}
use Rattle.std.specs.List.{AllByRecursion, AllZip}
use Rattle.std.proofs.lemmas.List.{append-nil, length-append, length-map, drop-map}
use Rattle.std.specs.declared.rc.Rc.{Rc}
use Rattle.std.specs.declared.alloc.Global.{Global}
use Rattle.lists.proofs.Lists.{all_append}
use Rattle.manifest.specs.declared.group.Group.{Group as CodeGroup}
use Rattle.bits.specs.declared.refusal.Refusal.{Refusal}
use Rattle.bits.specs.declared.refusal.Refusal.TheVariants.{Limit, Device, Memory}
use Rattle.bits.specs.Refusals.{RefusedMemoryOnly}
use Rattle.disk.specs.State.{State as DiskState}
use Rattle.partition.specs.Folders.{CanPartition}
use Rattle.manifest.specs.Groups.{Group as FileGroup, handles_view, numbers_of}
use Rattle.planning.specs.declared.change.Run.{Run as CodeRun}
use Rattle.planning.specs.Replaced.{Run, run_view}
use Rattle.planning.specs.Numbered.{brought_by}
use Rattle.table.specs.Table.{Row, Key, Group, IsGroupIn, IsRowIn, rows, numbers}
use Rattle.table.specs.State.{State, sources}
use Rattle.table.specs.Limits.{IsPart, IsOfRun}
use Rattle.table_state.specs.declared.standing.Core.{Core}
use Rattle.table_state.specs.declared.jobs.OpenJob.{OpenJob}
use Rattle.table_state.specs.Lookups.{job_at}
use Rattle.table_commits.specs.Filling.{HasWritten, Goes}
use Rattle.table_jobs.specs.Rewritten.{AreSources, IsRunIn, AreRuns, WhyHalted, IsHalted, HasAdded, IsNew, AreNew, HasRewritten, HasRewrittenOne, RewritesOne}

-- ---- the rows of a run

rows_in_run : (s : State) (key : Key) (gs : List Group) → AllByRecursion (λ (g : Group). g.key ≡ key) gs → AllByRecursion (IsGroupIn s.table.schema s.table.keys) gs → AllByRecursion (IsRowIn s.table.schema s.table.keys key) (rows gs)
rows_in_run s key [] k each = tt
rows_in_run s key (g ∷ gs) k each = all_append (IsRowIn s.table.schema s.table.keys key) g.rows (rows gs) (subst (λ (x : Key). AllByRecursion (IsRowIn s.table.schema s.table.keys x) g.rows) k.0 each.0.rows_in) (rows_in_run s key gs k.1 each.1)

pub run_rows_in : (s : State) (run : List Group) (is : IsRunIn s run) → AllByRecursion (IsRowIn s.table.schema s.table.keys is.key) (rows run)
run_rows_in s run is = rows_in_run s is.key run is.keyed is.each

pub run_can : (s : State) (run : List Group) (is : IsRunIn s run) → CanPartition s.table.keys is.key
run_can s run is = by run is.some is.keyed is.each
  where
    by : (gs : List Group) → 1 ≤ length (rows gs) → AllByRecursion (λ (g : Group). g.key ≡ is.key) gs → AllByRecursion (IsGroupIn s.table.schema s.table.keys) gs → CanPartition s.table.keys is.key
    by [] some k each = absurd (omega (arith, some))
    by (g ∷ gs) some k each = subst (λ (x : Key). CanPartition s.table.keys x) k.0 each.0.keyed

pub source_numbers_of : (disk : DiskState) (s : State) (job : Option OpenJob) (place : ℕ) (fs : List FileGroup) (gs : List Group) → AreSources disk s job place fs gs → numbers_of fs ≡ numbers gs
source_numbers_of disk s job place [] [] z = refl
source_numbers_of disk s job place (f ∷ fs) (g ∷ gs) z = λ i. sym z.0.stored.number i ∷ source_numbers_of disk s job (suc place) fs gs z.1 i
source_numbers_of disk s job place [] (g ∷ gs) z = absurd z
source_numbers_of disk s job place (f ∷ fs) [] z = absurd z

-- ---- one run

pub lengths_same : {A B : Type 0} (R : A → B → Type 0) (xs : List A) (ys : List B) → AllZip R xs ys → length xs ≡ length ys
lengths_same R [] [] z = refl
lengths_same R (x ∷ xs) (y ∷ ys) z = ap suc (lengths_same R xs ys z.1)
lengths_same R [] (y ∷ ys) z = absurd z
lengths_same R (x ∷ xs) [] z = absurd z

module _ {D : Type 0} (state : D → DiskState) (start : Core D) (s : State) (n : ℕ) where
  -- it is read and not written, or not read
  pub one_stops : (new : Core D) (Part More : List Row → Type 0) → ((part : List Row) → Part part → More part) → (least most : ℕ) → least ≤ most → (e : Refusal) → IsHalted state start new s Part least e → IsHalted state start new s More most e
  one_stops new Part More so least most low e h = record { wrote = h.wrote; no_more = (let a = h.no_more in omega (arith, a, low)); why = why e h.why }
    where
      why : (f : Refusal) → WhyHalted state start new s Part f → WhyHalted state start new s More f
      why Device w = w
      why Limit w = (w.0, so w.0 w.1, w.2)
      why Memory w = tt
      why f w = absurd w

  -- it is written
  pub one_run : (mid new : Core D) (was files : List FileGroup) (groups run : List Group) (fs : List FileGroup) (place : ℕ) → HasWritten state start mid s (Some n) was groups → AreSources (state start.vault.disk) s (job_at n start.jobs.items) place fs run → (is : IsRunIn s run)
      → (most : ℕ) → (added : HasAdded state start new s (Some n) was files groups is.key (rows run) most) → (r : Run) → r.sources ≡ numbers_of fs → r.come ≡ drop (length was) files → HasRewrittenOne state start new s (Some n) was files groups r run most
  one_run mid new was files groups run fs place has are is most added r named come =
      let behind : drop (length was) files ≡ added.goes.0 = ap (drop (length was)) added.goes.1 ∙ skip was added.goes.0 in
      let old_many = lengths_same _ was groups has.stored in
      let new_many = lengths_same _ files (groups ++ added.added) added.written.stored in
      let a = ap (λ (gs : List FileGroup). length gs) added.goes.1 in
      let b = length-append was added.goes.0 in
      let c = length-append groups added.added in
      let d = ap (λ (gs : List FileGroup). length gs) (come ∙ behind) in
      record {
        added = added.added;
        written = added.written;
        come = added.goes.1 ∙ ap (λ (gs : List FileGroup). was ++ gs) (sym (come ∙ behind));
        is_new = record {
          named = named ∙ source_numbers_of (state start.vault.disk) s (job_at n start.jobs.items) place fs run are;
          as_many = omega (arith, old_many, new_many, a, b, c, d);
          some = is.some;
          key = is.key;
          keyed = is.keyed;
          holds = added.holds;
        };
        no_more = added.no_more;
      }
    where
      skip : (xs ys : List FileGroup) → drop (length xs) (xs ++ ys) ≡ ys
      skip [] ys = refl
      skip (x ∷ xs) ys = skip xs ys

  -- the run that is made of it
  pub one_made : (mid new : Core D) (was files : List FileGroup) (groups run : List Group) (fs : List FileGroup) (place : ℕ) → HasWritten state start mid s (Some n) was groups → AreSources (state start.vault.disk) s (job_at n start.jobs.items) place fs run → (is : IsRunIn s run)
      → (number : ℕ) → (added : HasAdded state start new s (Some n) was files groups is.key (rows run) (number + length (rows run))) → (o : Result CodeRun Refusal) → IfOk o (λ r. run_view r ≡ record { sources = numbers_of fs; come = drop (length was) files }) → RefusedMemoryOnly o
      → RewritesOne state start new s (Some n) was files groups run number o
  one_made mid new was files groups run fs place has are is number added (Ok r) made which = one_run mid new was files groups run fs place has are is (number + length (rows run)) added (run_view r) (ap (λ (q : Run). q.sources) made) (ap (λ (q : Run). q.come) made)
  one_made mid new was files groups run fs place has are is number added (Err Memory) made which = record { wrote = added.written.wrote; no_more = added.no_more; why = tt }
  one_made mid new was files groups run fs place has are is number added (Err e) made which = absurd which

-- the handles behind so many
pub behind_first : (first : ℕ) (was files : List (Rc CodeGroup Global)) (come : List (Rc CodeGroup Global)) → first ≡ length was → come ≡ drop first files → handles_view come ≡ drop (length (handles_view was)) (handles_view files)
behind_first first was files come many is =
    ap handles_view is ∙ sym (drop-map _ first files) ∙ ap (λ (k : ℕ). drop k (handles_view files)) (many ∙ sym (length-map was _))

pub many_in : (lent items : List (Rc CodeGroup Global)) → lent ≡ items → length lent ≡ length (handles_view items)
many_in lent items is = ap (λ (xs : List (Rc CodeGroup Global)). length xs) is ∙ sym (length-map items _)

pub come_told : (was files : List FileGroup) (ns : List ℕ) (o : Result CodeRun Refusal) → IfOk o (λ r. run_view r ≡ record { sources = ns; come = drop (length was) files }) → Goes was files → IfOk o (λ r. files ≡ was ++ (run_view r).come)
come_told was files ns (Ok r) made goes = goes.1 ∙ ap (λ (gs : List FileGroup). was ++ gs) (sym (ap (λ (q : Run). q.come) made ∙ ap (drop (length was)) goes.1 ∙ skip was goes.0))
  where
    skip : (xs ys : List FileGroup) → drop (length xs) (xs ++ ys) ≡ ys
    skip [] ys = refl
    skip (x ∷ xs) ys = skip xs ys
come_told was files ns (Err e) made goes = tt

-- ---- all runs

-- So far these runs are done; the others are left, from this place on.
pub record SoFar {D : Type 0} (state : D → DiskState) (start mid : Core D) (s : State) (n : ℕ) (files : List FileGroup) (made : List Run) (runs : List (List Group)) (place : ℕ) (fss : List (List FileGroup)) : Type 0 where
  pub done : List (List Group)
  pub left : List (List Group)
  pub split : runs ≡ done ++ left
  pub has : HasRewritten state start mid s (Some n) files made done
  pub are : AreRuns (state start.vault.disk) s (job_at n start.jobs.items) place fss left

pub record NextRun (disk : DiskState) (s : State) (job : Option OpenJob) (place : ℕ) (fs : List FileGroup) (fss : List (List FileGroup)) (left : List (List Group)) : Type 0 where
  pub run : List Group
  pub others : List (List Group)
  pub is : left ≡ run ∷ others
  pub sources : AreSources disk s job place fs run
  pub run_in : IsRunIn s run
  pub rest : AreRuns disk s job (place + length fs) fss others

pub next_run : (disk : DiskState) (s : State) (job : Option OpenJob) (place : ℕ) (fs : List FileGroup) (fss : List (List FileGroup)) (left : List (List Group)) → AreRuns disk s job place (fs ∷ fss) left → NextRun disk s job place fs fss left
next_run disk s job place fs fss [] z = absurd z
next_run disk s job place fs fss (run ∷ others) z = record { run = run; others = others; is = refl; sources = z.0; run_in = z.1; rest = z.2 }

sources_two : (xs ys : List (List Group)) → sources (xs ++ ys) ≡ sources xs ++ sources ys
sources_two [] ys = refl
sources_two (x ∷ xs) ys = ap (λ (gs : List Group). x ++ gs) (sources_two xs ys) ∙ sym (append_assoc x (sources xs) (sources ys))

rows_two : (xs ys : List Group) → rows (xs ++ ys) ≡ rows xs ++ rows ys
rows_two [] ys = refl
rows_two (x ∷ xs) ys = ap (λ (rs : List Row). x.rows ++ rs) (rows_two xs ys) ∙ sym (append_assoc x.rows (rows xs) (rows ys))

pub brought_two : (rs : List Run) (r : Run) → brought_by (rs ++ r ∷ []) ≡ brought_by rs ++ r.come
brought_two [] r = append-nil r.come
brought_two (q ∷ rs) r = ap (λ (gs : List FileGroup). q.come ++ gs) (brought_two rs r) ∙ sym (append_assoc q.come (brought_by rs) r.come)

new_two : (s : State) (rs : List Run) (runs gss : List (List Group)) (r : Run) (run gs : List Group) → AreNew s rs runs gss → IsNew s r run gs → AreNew s (rs ++ r ∷ []) (runs ++ run ∷ []) (gss ++ gs ∷ [])
new_two s [] [] [] r run gs z h = (h, tt)
new_two s (q ∷ rs) (x ∷ runs) (y ∷ gss) r run gs z h = (z.0, new_two s rs runs gss r run gs z.1 h)
new_two s [] [] (y ∷ gss) r run gs z h = absurd z
new_two s [] (x ∷ runs) gss r run gs z h = absurd z
new_two s (q ∷ rs) [] gss r run gs z h = absurd z
new_two s (q ∷ rs) (x ∷ runs) [] r run gs z h = absurd z

contained : (xs : List (List Group)) (x : List Group) (ys : List (List Group)) → Contains (xs ++ x ∷ ys) x
contained [] x ys = (0, omega arith, refl)
contained (y ∷ xs) x ys = let r = contained xs x ys in (suc r.0, (let l = r.1 in omega (arith, l)), r.2)

module _ {D : Type 0} (state : D → DiskState) (start : Core D) (s : State) (n : ℕ) (runs : List (List Group)) where
  pub none_done : (mid : Core D) (fss : List (List FileGroup)) → HasWritten state start mid s (Some n) [] [] → mid.next_group ≡ s.next_group → AreRuns (state start.vault.disk) s (job_at n start.jobs.items) 0 fss runs → SoFar state start mid s n [] [] runs 0 fss
  none_done mid fss has same are = record {
    done = [];
    left = runs;
    split = refl;
    has = record { groups = []; written = has; come = refl; are_new = tt; no_more = omega (arith, same) };
    are = are;
  }

  module _ (mid : Core D) (files : List FileGroup) (made : List Run) (place : ℕ) (fs : List FileGroup) (fss : List (List FileGroup)) (f : SoFar state start mid s n files made runs place (fs ∷ fss))
      (next : NextRun (state start.vault.disk) s (job_at n start.jobs.items) place fs fss f.left) where
    runs_are : runs ≡ f.done ++ next.run ∷ next.others
    runs_are = f.split ∙ ap (λ (gss : List (List Group)). f.done ++ gss) next.is

    abbrev done_then : List (List Group)
    done_then = f.done ++ next.run ∷ []

    all_rows : length (rows (sources runs)) ≡ length (rows (sources done_then)) + length (rows (sources next.others))
    all_rows = ap (λ (gss : List (List Group)). length (rows (sources gss))) (runs_are ∙ sym (append_assoc f.done (next.run ∷ []) next.others))
        ∙ ap (λ (gs : List Group). length (rows gs)) (sources_two done_then next.others) ∙ ap (λ (rs : List Row). length rs) (rows_two (sources done_then) (sources next.others)) ∙ length-append (rows (sources done_then)) (rows (sources next.others))

    done_rows : length (rows (sources done_then)) ≡ length (rows (sources f.done)) + length (rows next.run)
    done_rows = ap (λ (gs : List Group). length (rows gs)) (sources_two f.done (next.run ∷ []) ∙ ap (λ (gs : List Group). sources f.done ++ gs) (append-nil next.run))
        ∙ ap (λ (rs : List Row). length rs) (rows_two (sources f.done) next.run) ∙ length-append (rows (sources f.done)) (rows next.run)

    pub low_enough : mid.next_group + length (rows next.run) ≤ s.next_group + length (rows (sources runs))
    low_enough = let a = all_rows in let b = done_rows in let c = f.has.no_more in omega (arith, a, b, c)

    pub of_runs : (part : List Row) → IsPart s.options.group_rows (rows next.run) part → IsOfRun s runs part
    of_runs part p = (next.run, subst (λ (gss : List (List Group)). Contains gss next.run) (sym runs_are) (contained f.done next.run next.others), p)

    pub run_more : (new : Core D) (more : List FileGroup) (r : Run) → HasRewrittenOne state start new s (Some n) files more (sources f.has.groups) r next.run (mid.next_group + length (rows next.run)) → (at : ℕ) → at ≡ place + length fs
        → SoFar state start new s n more (made ++ r ∷ []) runs at fss
    run_more new more r one at step = record {
      done = done_then;
      left = next.others;
      split = runs_are ∙ sym (append_assoc f.done (next.run ∷ []) next.others);
      has = record {
        groups = f.has.groups ++ one.added ∷ [];
        written = subst (λ (gs : List Group). HasWritten state start new s (Some n) more gs) (sym (sources_two f.has.groups (one.added ∷ []) ∙ ap (λ (gs : List Group). sources f.has.groups ++ gs) (append-nil one.added))) one.written;
        come = brought_two made r ∙ ap (λ (gs : List FileGroup). gs ++ r.come) f.has.come ∙ sym one.come;
        are_new = new_two s made f.done f.has.groups r next.run one.added f.has.are_new one.is_new;
        no_more = let a = done_rows in let b = f.has.no_more in let c = one.no_more in omega (arith, a, b, c);
      };
      are = subst (λ (k : ℕ). AreRuns (state start.vault.disk) s (job_at n start.jobs.items) k fss next.others) (sym step) next.rest;
    }

    -- out of memory behind it
    pub poor_more : (new : Core D) (more : List FileGroup) (r : Run) → HasRewrittenOne state start new s (Some n) files more (sources f.has.groups) r next.run (mid.next_group + length (rows next.run))
        → IsHalted state start new s (IsOfRun s runs) (s.next_group + length (rows (sources runs))) Memory
    poor_more new more r one = record { wrote = one.written.wrote; no_more = (let a = one.no_more in let b = low_enough in omega (arith, a, b)); why = tt }

  pub all_done : (mid : Core D) (files : List FileGroup) (made : List Run) (place : ℕ) → SoFar state start mid s n files made runs place [] → HasRewritten state start mid s (Some n) files made runs
  all_done mid files made place f = by f.left f.are f.split
    where
      by : (left : List (List Group)) → AreRuns (state start.vault.disk) s (job_at n start.jobs.items) place [] left → runs ≡ f.done ++ left → HasRewritten state start mid s (Some n) files made runs
      by [] z e = subst (λ (gss : List (List Group)). HasRewritten state start mid s (Some n) files made gss) (sym (e ∙ append-nil f.done)) f.has
      by (x ∷ xs) z e = absurd z
