-- A rewrite that is open: its sources, while it is not stale.
use Rattle.std.proofs.Common.{◌≡◌, ◌≤◌, ◌<◌, ◌+◌, ℕ, suc, Bool, true, false, List, [], ◌∷◌, ◌++◌, map, length, take, Option, Some, None, refl, sym, ◌∙◌, ap, subst, arith, append_assoc}
use Rattle.std.specs.Prelude.{option_map, nat_eq}
use Rattle.std.specs.List.{AllByRecursion, AllZip, list_all, slice_get}
use Rattle.std.specs.declared.vec.Vec.{Vec}
use Rattle.std.specs.declared.alloc.Global.{Global}
use Rattle.std.proofs.lemmas.Bool.{lt-ltb}
use Rattle.std.proofs.lemmas.List.{length-append}
use Rattle.lists.proofs.Lists.{all_left as front_of_all, all_right as rest_of_all}
use Rattle.bits.specs.declared.refusal.Refusal.{Refusal}
use Rattle.bits.specs.declared.refusal.Refusal.TheVariants.{Stale}
use Rattle.schema.specs.declared.row.Row.{Row as CodeRow}
use Rattle.schema.specs.Cutting.{is_among}
use Rattle.schema.specs.Fronts.{padded}
use Rattle.schema.specs.Shape.{Fields}
use Rattle.schema.specs.Keys.{without_keys}
use Rattle.schema.specs.Views.{rows_view}
use Rattle.disk.specs.State.{State as DiskState}
use Rattle.manifest.specs.Groups.{Group as FileGroup, root_of, handles_view, numbers_of}
use Rattle.manifest.specs.Records.{IsGroup}
use Rattle.planning.specs.declared.change.Sources.{Sources}
use Rattle.planning.specs.Runs.{sources_view}
use Rattle.snapshots.specs.State.{Pins, open_at as pinned_at}
use Rattle.snapshots.specs.Views.{state_of}
use Rattle.table.specs.Table.{Row, Group, IsGroupIn, rows, numbers}
use Rattle.table.specs.State.{State, Job, appending, rewriting, sources, open_at}
use Rattle.table.specs.Standing.{StandInRows, IsRun}
use Rattle.table.specs.Faults.{first, unless}
use Rattle.table.specs.Checks.{fault, closed_fault, job_fault, counter_fault, stale_fault}
use Rattle.table.specs.Calls.{commit}
use Rattle.table.proofs.Standing.{sources_stand}
use Rattle.table_state.specs.declared.standing.Core.{Core}
use Rattle.table_state.specs.declared.jobs.OpenJob.{OpenJob}
use Rattle.table_state.specs.declared.jobs.Work.{Work}
use Rattle.table_state.specs.declared.jobs.Work.TheVariants.{Append, Rewrite}
use Rattle.table_state.specs.declared.jobs.Rewriting.{Rewriting}
use Rattle.table_state.specs.Stands.{AreStored, ShowsRun, ShowsRewrite, ShowsWork, Stands}
use Rattle.table_state.specs.Lookups.{job_at}
use Rattle.table_jobs.specs.Staging.{is_append, finds_append, is_nothing, finds_nothing}
use Rattle.table_commits.specs.Acting.{WroteTo}
use Rattle.table_commits.specs.Filling.{HasWritten}
use Rattle.table_jobs.specs.Rewritten.{IsRewriteAt, runs_at, runs_of_work, kept_at, numbers_of_runs, AreSources, IsRunIn, AreRuns}
use Rattle.table_jobs.proofs.JobChecks.{commit_fault}
use Rattle.table_reads.proofs.SomethingEnds.{found_open}
use Rattle.table_reads.proofs.AfterEvents.{job_found}
use Rattle.table_commits.proofs.SomeGroups.{same_numbers}
use Rattle.table_commits.proofs.FilesSoFar.{wrote_nothing}

-- ---- which job it is

pub rewrite_there : (x : OpenJob) (o : Option OpenJob) → o ≡ Some x → finds_append o ≡ false → finds_nothing o ≡ false → (r : Rewriting) × (x.work ≡ Rewrite r) × (r.runs.items ≡ [] → ⊥)
rewrite_there x o is other some = by x.work refl (ap finds_append (sym is) ∙ other) (ap finds_nothing (sym is) ∙ some)
  where
    by : (w : Work) → x.work ≡ w → is_append x.work ≡ false → is_nothing x.work ≡ false → (r : Rewriting) × (x.work ≡ Rewrite r) × (r.runs.items ≡ [] → ⊥)
    by (Append a) e f g = let c : true ≡ false = sym (ap is_append e) ∙ f in absurd (cc)
    by (Rewrite r) e f g = (r, e, λ none. let c : true ≡ false = sym (ap is_nothing e ∙ ap (λ (xs : List Sources). nat_eq (length xs) 0) none) ∙ g in cc)

-- its runs, as they are looked up
pub runs_told : (n : ℕ) (jobs : List OpenJob) (r : Rewriting) → IsRewriteAt n jobs r → runs_at (job_at n jobs) ≡ sources_view r.runs.items
runs_told n jobs r at = ap runs_at at.1 ∙ ap runs_of_work at.2

-- ---- what is kept

read_at : (schema : Fields) (read : List (Vec CodeRow Global)) (before : List Group) (g : Group) (behind : List Group)
    → AllZip (λ (v : Vec CodeRow Global) (h : Group). map (padded schema) (rows_view v.items) ≡ h.rows) read (take (length read) (before ++ g ∷ behind))
    → (given : List Row) → option_map (λ (v : Vec CodeRow Global). rows_view v.items) (slice_get read (length before)) ≡ Some given → map (padded schema) given ≡ g.rows
read_at schema [] before g behind z given e = absurd (cc)
read_at schema (v ∷ vs) [] g behind z given e = ap (map (padded schema)) (sym (one (rows_view v.items) given e)) ∙ z.0
  where
    one : (a b : List Row) → Some a ≡ Some b → a ≡ b
    one a b f = cc
read_at schema (v ∷ vs) (b ∷ bs) g behind z given e = read_at schema vs bs g behind z.1 given e

module _ {D : Type 0} (state : D → DiskState) (old : Core D) (s : State) (stands : Stands state old s) (is_open : s.closed ≡ false) (n : ℕ) where
  abbrev disk : DiskState
  disk = state old.vault.disk

  -- ---- the job

  -- what a rewrite holds
  pub record HeldRewrite (r : Rewriting) : Type 0 where
    pub runs : List (List Group)
    pub unread : List ℕ
    pub there : open_at n s.jobs ≡ Some (rewriting runs unread)
    pub pins : Pins
    pub pinned : pinned_at n (state_of old.snapshots).jobs ≡ Some pins
    pub shows : ShowsRewrite disk s.table.keys s.table.schema s.next_group s.options.group_rows s.had pins r runs unread

  held_by : (r : Rewriting) (pins : Pins) → pinned_at n (state_of old.snapshots).jobs ≡ Some pins → (j : Job) → open_at n s.jobs ≡ Some j
      → ShowsWork disk s.table.keys s.table.schema s.next_group s.options.group_rows s.had pins (Rewrite r) j → HeldRewrite r
  held_by r pins pinned (rewriting runs unread) e w = record { runs = runs; unread = unread; there = e; pins = pins; pinned = pinned; shows = w }
  held_by r pins pinned (appending staged) e w = absurd w

  pub held : (r : Rewriting) → IsRewriteAt n old.jobs.items r → HeldRewrite r
  held r at =
      let found = job_found disk s.table.keys s.table.schema s.next_group s.options.group_rows s.had n (state_of old.snapshots).jobs old.jobs.items s.jobs (stands.shows.shown is_open).jobs at.0 at.1 in
      held_by r found.2.pins (ap (λ (m : ℕ). pinned_at m (state_of old.snapshots).jobs) (sym found.2.number) ∙ found.2.pinned) found.0 found.1
      (subst (λ (w : Work). ShowsWork disk s.table.keys s.table.schema s.next_group s.options.group_rows s.had found.2.pins w found.0) at.2 found.2.work)

  -- nothing is written yet
  pub starts : (r : Rewriting) → HeldRewrite r → HasWritten state old old s (Some n) [] []
  starts r h = record {
    wrote = subst (λ (k : ℕ). WroteTo state old old s k) (sym stands.shows.next_group) (wrote_nothing state old s stands.shows is_open);
    no_less = omega arith;
    job_open = found_open n (state_of old.snapshots).jobs h.pins h.pinned;
    stored = tt;
    held = tt;
    described = tt;
    above = tt;
    distinct = tt;
  }

  -- ---- its sources

  module _ (r : Rewriting) (at : IsRewriteAt n old.jobs.items r) where
    abbrev here_held : HeldRewrite r
    here_held = held r at

    abbrev pub runs : List (List Group)
    runs = here_held.runs

    abbrev Shown : Sources → List Group → Type 0
    Shown shown run = ShowsRun disk s.table.keys s.table.schema s.next_group s.options.group_rows s.had here_held.pins shown run

    run_numbers : (shown : List Sources) (gss : List (List Group)) → AllZip Shown shown gss → numbers_of_runs (sources_view shown) ≡ numbers (sources gss)
    run_numbers [] [] z = refl
    run_numbers (x ∷ xs) (run ∷ gss) z =
        (λ i. same_numbers disk s.table.keys s.table.schema s.next_group (handles_view x.groups.items) run z.0.sources i ++ run_numbers xs gss z.1 i) ∙ sym (both run (sources gss))
      where
        both : (xs ys : List Group) → numbers (xs ++ ys) ≡ numbers xs ++ numbers ys
        both [] ys = refl
        both (x ∷ xs) ys = ap (λ (ns : List ℕ). x.number ∷ ns) (both xs ys)
    run_numbers [] (run ∷ gss) z = absurd z
    run_numbers (x ∷ xs) [] z = absurd z

    pub source_numbers : numbers_of_runs (sources_view r.runs.items) ≡ numbers (sources runs)
    source_numbers = run_numbers r.runs.items runs here_held.shows.each

    -- whether the sources are there decides
    pub fault_is : s.next_group < 9223372036854775808 → (b : Bool) (ns : List ℕ) → ns ≡ numbers_of_runs (sources_view r.runs.items) → list_all (is_among (numbers_of (root_of old.manifest).groups)) ns ≡ b → fault s (commit n) ≡ first (None ∷ None ∷ None ∷ unless b Stale ∷ [])
    fault_is low b ns told all =
        let same : numbers_of (root_of old.manifest).groups ≡ numbers s.table.groups = same_numbers disk s.table.keys s.table.schema s.next_group (root_of old.manifest).groups s.table.groups (stands.shows.shown is_open).version in
        let there : list_all (is_among (numbers s.table.groups)) (numbers (sources runs)) ≡ b
        = ap (λ (ms : List ℕ). list_all (is_among ms) (numbers (sources runs))) (sym same) ∙ ap (λ (ms : List ℕ). list_all (is_among (numbers_of (root_of old.manifest).groups)) ms) (sym (told ∙ source_numbers)) ∙ all in
        commit_fault state old s stands is_open n None true (ap job_fault here_held.there) (lt-ltb s.next_group 9223372036854775808 low)
        ∙ ap (λ (o : Option Job). first (None ∷ None ∷ None ∷ stale_fault s.table o ∷ [])) here_held.there
        ∙ ap (λ (c : Bool). first (None ∷ None ∷ None ∷ unless c Stale ∷ [])) there

    pub not_stale : fault s (commit n) ≡ None → stale_fault s.table (Some (rewriting runs here_held.unread)) ≡ None
    not_stale fine = ap (stale_fault s.table) (sym here_held.there) ∙ by (closed_fault s) (job_fault (open_at n s.jobs)) (counter_fault s) (stale_fault s.table (open_at n s.jobs)) fine
      where
        by : (a b c o : Option Refusal) → first (a ∷ b ∷ c ∷ o ∷ []) ≡ None → o ≡ None
        by None None None None e = refl
        by None None None (Some x) e = absurd (cc)
        by None None (Some x) o e = absurd (cc)
        by None (Some x) c o e = absurd (cc)
        by (Some x) b c o e = absurd (cc)

    module _ (fine : fault s (commit n) ≡ None) where
      stand : StandInRows runs s.table.groups
      stand = sources_stand s n runs here_held.unread stands.reached here_held.there (not_stale fine)

      abbrev job : Option OpenJob
      job = job_at n old.jobs.items

      kept_is : (place : ℕ) → kept_at place job ≡ option_map (λ (v : Vec CodeRow Global). rows_view v.items) (slice_get r.read.items place)
      kept_is place = ap (kept_at place) at.1 ∙ by at.0.work at.2
        where
          by : (w : Work) → w ≡ Rewrite r → kept_at place (Some (record { number = at.0.number; work = w })) ≡ option_map (λ (v : Vec CodeRow Global). rows_view v.items) (slice_get r.read.items place)
          by w e = ap (λ (v : Work). kept_at place (Some (record { number = at.0.number; work = v }))) e

      -- the sources of one run, behind others
      sources_so : (fs : List FileGroup) (run before behind : List Group) → sources runs ≡ before ++ (run ++ behind) → (place : ℕ) → place ≡ length before → AreStored disk s.table.keys s.table.schema s.next_group fs run
          → AllByRecursion (IsGroup s.table.keys (without_keys s.table.keys s.table.schema)) fs → AreSources disk s job place fs run
      sources_so [] [] before behind are place is z d = tt
      sources_so (f ∷ fs) (g ∷ gs) before behind are place is z d = (
        record {
          stored = z.0;
          described = d.0;
          read = λ given e. read_at s.table.schema r.read.items before g (gs ++ behind)
              (subst (λ (hs : List Group). AllZip (λ (v : Vec CodeRow Global) (h : Group). map (padded s.table.schema) (rows_view v.items) ≡ h.rows) r.read.items (take (length r.read.items) hs)) are here_held.shows.read) given
              (ap (λ (k : ℕ). option_map (λ (v : Vec CodeRow Global). rows_view v.items) (slice_get r.read.items k)) (sym is) ∙ sym (kept_is place) ∙ e);
        },
        sources_so fs gs (before ++ g ∷ []) behind (are ∙ sym (append_assoc before (g ∷ []) (gs ++ behind))) (suc place) (let l = length-append before (g ∷ []) in omega (arith, is, l)) z.1 d.1,
      )
      sources_so [] (g ∷ gs) before behind are place is z d = absurd z
      sources_so (f ∷ fs) [] before behind are place is z d = absurd z

      many : (fs : List FileGroup) (gs : List Group) → AreStored disk s.table.keys s.table.schema s.next_group fs gs → length fs ≡ length gs
      many [] [] z = refl
      many (f ∷ fs) (g ∷ gs) z = ap suc (many fs gs z.1)
      many [] (g ∷ gs) z = absurd z
      many (f ∷ fs) [] z = absurd z

      run_in : (run : List Group) → IsRun run → AllByRecursion (IsGroupIn s.table.schema s.table.keys) run → IsRunIn s run
      run_in run is each = record { some = by run is.some each; key = is.key; keyed = is.same_key; each = each }
        where
          by : (gs : List Group) → (gs ≡ [] → ⊥) → AllByRecursion (IsGroupIn s.table.schema s.table.keys) gs → 1 ≤ length (rows gs)
          by [] some each = absurd (some refl)
          by (g ∷ gs) some each = let a = each.0.some in let b = length-append g.rows (rows gs) in omega (arith, a, b)

      runs_so : (shown : List Sources) (gss : List (List Group)) → AllZip Shown shown gss → (gs : List Group) → StandInRows gss gs → AllByRecursion (IsGroupIn s.table.schema s.table.keys) gs → (before : List Group) → sources runs ≡ before ++ sources gss
          → (place : ℕ) → place ≡ length before → AreRuns disk s job place (sources_view shown) gss
      runs_so [] [] z gs st each before are place is = tt
      runs_so (x ∷ xs) (run ∷ gss) z gs st each before are place is =
          let inside = rest_of_all (IsGroupIn s.table.schema s.table.keys) st.0 (run ++ st.1) (subst (λ (hs : List Group). AllByRecursion (IsGroupIn s.table.schema s.table.keys) hs) st.2 each) in
          let m = many (handles_view x.groups.items) run z.0.sources in
          let l = length-append before run in (
            sources_so (handles_view x.groups.items) run before (sources gss) are place is z.0.sources z.0.described,
            run_in run st.3 (front_of_all (IsGroupIn s.table.schema s.table.keys) run st.1 inside),
            runs_so xs gss z.1 st.1 st.4 (rest_of_all (IsGroupIn s.table.schema s.table.keys) run st.1 inside) (before ++ run) (are ∙ sym (append_assoc before run (sources gss))) (place + length (handles_view x.groups.items)) (omega (arith, is, m, l)),
          )
      runs_so [] (run ∷ gss) z gs st each before are place is = absurd z
      runs_so (x ∷ xs) [] z gs st each before are place is = absurd z

      pub all_runs : (shown : List (List FileGroup)) → shown ≡ sources_view r.runs.items → AreRuns disk s job 0 shown runs
      all_runs shown same = subst (λ (fss : List (List FileGroup)). AreRuns disk s job 0 fss runs) (sym same) (runs_so r.runs.items runs here_held.shows.each s.table.groups stand stands.shows.valid.each [] refl 0 refl)

      -- some runs, as the code has some
      pub some_runs : (r.runs.items ≡ [] → ⊥) → runs ≡ [] → ⊥
      some_runs some none = some (by r.runs.items (subst (λ (gss : List (List Group)). AllZip Shown r.runs.items gss) none here_held.shows.each))
        where
          by : (xs : List Sources) → AllZip Shown xs [] → xs ≡ []
          by [] z = refl
          by (x ∷ xs) z = absurd z
