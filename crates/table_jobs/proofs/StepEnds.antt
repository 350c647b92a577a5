-- The step of a rewrite, from its checks to its ends.
use Rattle.std.proofs.Common.{◌≡◌, ◌≤◌, ◌<◌, ℕ, Bool, true, false, not, ◌==◌, List, [], ◌∷◌, ◌++◌, length, option_map, Option, Some, None, refl, sym, ◌∙◌, ap, subst}
use Rattle.std.specs.Prelude.{Vec, is_some, if◌then◌else◌}
use Rattle.std.specs.declared.alloc.Global.{Global}
use Rattle.std.proofs.lemmas.Bool.{lt-ltb}
use Rattle.std.proofs.lemmas.List.{append-nil}
use Rattle.bits.specs.declared.refusal.Refusal.{Refusal}
use Rattle.bits.specs.declared.refusal.Refusal.TheVariants.{Closed, Full, NoJob, Memory, Device}
use Rattle.bits.specs.Refusals.{HasCause}
use Rattle.schema.specs.declared.row.Row.{Row as CodeRow}
use Rattle.schema.specs.Shape.{Fields}
use Rattle.schema.specs.Views.{rows_view}
use Rattle.schema.specs.Keys.{KeyColumn, AreDistinct}
use Rattle.disk.specs.State.{State as DiskState}
use Rattle.vault.specs.declared.vault.Vault.{Vault}
use Rattle.vault.specs.Calls.{LeavesAll}
use Rattle.manifest.specs.Groups.{Group as FileGroup, root_of, numbers_of}
use Rattle.scan.specs.Faults.{IsDevice}
use Rattle.snapshots.specs.State.{Pins, open_at as pinned_at}
use Rattle.snapshots.specs.Views.{state_of}
use Rattle.table.specs.Table.{Group}
use Rattle.table.specs.State.{State, Job, appending, rewriting, sources, open_at, changed_at}
use Rattle.table.specs.Faults.{first, unless}
use Rattle.table.specs.Checks.{fault, rewrite_fault, can_count}
use Rattle.table.specs.Calls.{Call, step_rewrite, more, refused}
use Rattle.table.specs.History.{TakesOne, is_left}
use Rattle.table.specs.Refusing.{Happens, checked, no_memory, failed as refused_failed}
use Rattle.table.proofs.Steady.{stays, stays_there}
use Rattle.table_state.specs.declared.standing.Core.{Core}
use Rattle.table_state.specs.declared.jobs.OpenJob.{OpenJob}
use Rattle.table_state.specs.declared.jobs.Work.{Work}
use Rattle.table_state.specs.declared.jobs.Work.TheVariants.{Append, Rewrite}
use Rattle.table_state.specs.declared.jobs.Rewriting.{Rewriting}
use Rattle.table_state.specs.Lookups.{job_at, jobs_with}
use Rattle.table_commits.specs.Cleaning.{Clears}
use Rattle.table_jobs.specs.Completing.{with_work}
use Rattle.table_reads.specs.Counting.{IsHeld}
use Rattle.table_state.specs.Stands.{ShowsRewrite, ShowsWork, ShowsJob, ShowsOpen, Shows, Stands, written_in, job_numbers}
use Rattle.table_reads.specs.Stepping.{is_rewrite, finds_rewrite, next_at, next_in, source_in, HasRead}
use Rattle.table_state.specs.Promises.{IsOlderFile, ActsFrom}
use Rattle.table_jobs.proofs.JobChecks.{not_low}
use Rattle.table_reads.proofs.SomethingOpens.{job_numbers_are}
use Rattle.table_commits.proofs.JobsChanged.{job_changed}
use Rattle.table_reads.proofs.AfterEvents.{job_found, job_not_found}
use Rattle.table_reads.proofs.FetchesGoOn.{still_so, stays_put}
use Rattle.table_reads.proofs.FetchesWithoutCursor.{changed_same}
use Rattle.table_commits.proofs.NumbersOfJobs.{WritesOn, parted_changed, written_below}
use Rattle.table_jobs.proofs.WorkReplaced.{put_changes}
use Rattle.table_commits.proofs.OneCallMore.{reached_on}
use Rattle.table_commits.proofs.OlderFiles.{kept_read}
use Rattle.table_commits.proofs.UnchangedRefusals.{changes_nothing}
use Rattle.table_jobs.proofs.SourceBySource.{AtPlace, next_there, nothing_left, same_shown, rest, read_more, takes_one, more_left, held_alone}

-- what passed the checks is a rewrite
passed : (s : State) (n : ℕ) → fault s (step_rewrite n) ≡ None → rewrite_fault (open_at n s.jobs) ≡ None
passed s n e = by (not s.closed) (rewrite_fault (open_at n s.jobs)) (can_count s.next_group) e
  where
    by : (a : Bool) (o : Option Refusal) (b : Bool) → first (unless a Closed ∷ o ∷ unless b Full ∷ []) ≡ None → o ≡ None
    by true None b f = refl
    by true (Some r) b f = absurd (cc)
    by false o b f = absurd (cc)

-- the source that is read next, as it is found
pub next_none : {X : Type 0} (n : ℕ) (o : Option X) (view : X → FileGroup) (lent items : List OpenJob) → o ≡ None → option_map view o ≡ next_at (job_at n lent) → lent ≡ items → next_at (job_at n items) ≡ None
next_none n o view lent items is e same = ap (λ (js : List OpenJob). next_at (job_at n js)) (sym same) ∙ sym e ∙ ap (option_map view) is

pub next_some : {X : Type 0} (n : ℕ) (o : Option X) (x : X) (view : X → FileGroup) (lent items : List OpenJob) → o ≡ Some x → option_map view o ≡ next_at (job_at n lent) → lent ≡ items → next_at (job_at n items) ≡ Some (view x)
next_some n o x view lent items is e same = ap (λ (js : List OpenJob). next_at (job_at n js)) (sym same) ∙ sym e ∙ ap (option_map view) is

pub some_mapped : {X Y : Type 0} (f : X → Y) (o : Option X) → is_some o ≡ is_some (option_map f o)
some_mapped f None = refl
some_mapped f (Some x) = refl

-- the source that is read next by the job that has this work now
next_work : (n : ℕ) (w : Work) (xs : List OpenJob) (x : OpenJob) → job_at n xs ≡ Some x → next_at (job_at n (with_work n w xs)) ≡ next_in w
next_work n w [] x there = absurd (cc)
next_work n w (y ∷ ys) x there = by (y.number == n) refl there (next_work n w ys x)
  where
    by : (b : Bool) → (y.number == n) ≡ b → (if b then Some y else job_at n ys) ≡ Some x → (job_at n ys ≡ Some x → next_at (job_at n (with_work n w ys)) ≡ next_in w)
        → next_at (job_at n (if b then record { number = y.number; work = w } ∷ ys else y ∷ with_work n w ys)) ≡ next_in w
    by true e t r = ap (λ (b : Bool). next_at (if b then Some (record { number = y.number; work = w }) else job_at n ys)) e
    by false e t r = ap (λ (b : Bool). next_at (if b then Some y else job_at n (with_work n w ys))) e ∙ r t

module _ {D : Type 0} (state : D → DiskState) (store : Core D) (s : State) (stands : Stands state store s) (is_open : s.closed ≡ false) (n : ℕ) where
  abbrev disk : DiskState
  disk = state store.vault.disk

  abbrev call : Call
  call = step_rewrite n

  here : ShowsOpen disk store s
  here = stands.shows.shown is_open

  -- ---- the checks

  work_told : (pins : Pins) (w : Work) (j : Job) (c : Bool) → is_rewrite w ≡ c → ShowsWork disk s.table.keys s.table.schema s.next_group s.options.group_rows s.had pins w j → rewrite_fault (Some j) ≡ unless c NoJob
  work_told pins (Append a) (appending staged) false e is = refl
  work_told pins (Append a) (appending staged) true e is = absurd (cc)
  work_told pins (Rewrite r) (rewriting runs unread) true e is = refl
  work_told pins (Rewrite r) (rewriting runs unread) false e is = absurd (cc)
  work_told pins (Append a) (rewriting runs unread) c e is = absurd is
  work_told pins (Rewrite r) (appending staged) c e is = absurd is

  rewrite_told : (b : Bool) → finds_rewrite (job_at n store.jobs.items) ≡ b → rewrite_fault (open_at n s.jobs) ≡ unless b NoJob
  rewrite_told b e = by (job_at n store.jobs.items) refl e
    where
      by : (o : Option OpenJob) → job_at n store.jobs.items ≡ o → finds_rewrite o ≡ b → rewrite_fault (open_at n s.jobs) ≡ unless b NoJob
      by None none f = ap rewrite_fault (job_not_found disk s.table.keys s.table.schema s.next_group s.options.group_rows s.had n (state_of store.snapshots).jobs store.jobs.items s.jobs here.jobs none) ∙ ap (λ (c : Bool). unless c NoJob) f
      by (Some x) some f =
          let is = job_found disk s.table.keys s.table.schema s.next_group s.options.group_rows s.had n (state_of store.snapshots).jobs store.jobs.items s.jobs here.jobs x some in
          ap rewrite_fault is.1 ∙ work_told is.2.pins x.work is.0 b f is.2.work

  step_fault : (o : Option Refusal) (b : Bool) → rewrite_fault (open_at n s.jobs) ≡ o → can_count s.next_group ≡ b → fault s call ≡ first (None ∷ o ∷ unless b Full ∷ [])
  step_fault o b e f =
      ap (λ (c : Bool). first (unless (not c) Closed ∷ rewrite_fault (open_at n s.jobs) ∷ unless (can_count s.next_group) Full ∷ [])) is_open
      ∙ ap (λ (p : Option Refusal). first (None ∷ p ∷ unless (can_count s.next_group) Full ∷ [])) e
      ∙ ap (λ (c : Bool). first (None ∷ o ∷ unless c Full ∷ [])) f

  pub step_no_job : finds_rewrite (job_at n store.jobs.items) ≡ false → ActsFrom state store store call (refused NoJob) s
  step_no_job e = changes_nothing state store call (refused NoJob) s stands (checked (step_fault (Some NoJob) (can_count s.next_group) (rewrite_told false e) refl) (λ b. cc) (stays s call refl))

  pub step_full : finds_rewrite (job_at n store.jobs.items) ≡ true → 9223372036854775808 ≤ s.next_group → ActsFrom state store store call (refused Full) s
  step_full there high = changes_nothing state store call (refused Full) s stands (checked (step_fault None false (rewrite_told true there) (not_low s.next_group high)) (λ b. cc) (stays s call refl))

  pub step_fine : finds_rewrite (job_at n store.jobs.items) ≡ true → s.next_group < 9223372036854775808 → fault s call ≡ None
  step_fine there low = step_fault None true (rewrite_told true there) (lt-ltb s.next_group 9223372036854775808 low)

  -- ---- the rewrite that is found

  pub record IsThere : Type 0 where
    pub x : OpenJob
    pub r : Rewriting
    pub there : job_at n store.jobs.items ≡ Some x
    pub is : x.work ≡ Rewrite r
    pub runs : List (List Group)
    pub unread : List ℕ
    pub is_open_at : open_at n s.jobs ≡ Some (rewriting runs unread)
    pub pins : Pins
    pub pinned : pinned_at n (state_of store.snapshots).jobs ≡ Some pins
    pub shows : ShowsRewrite disk s.table.keys s.table.schema s.next_group s.options.group_rows s.had pins r runs unread

  there_by : (x : OpenJob) → job_at n store.jobs.items ≡ Some x → (pins : Pins) → pinned_at n (state_of store.snapshots).jobs ≡ Some pins → (j : Job) → open_at n s.jobs ≡ Some j
      → (w : Work) → x.work ≡ w → ShowsWork disk s.table.keys s.table.schema s.next_group s.options.group_rows s.had pins w j → rewrite_fault (Some j) ≡ None → IsThere
  there_by x there pins pinned (rewriting runs unread) at (Rewrite r) e v f = record { x = x; r = r; there = there; is = e; runs = runs; unread = unread; is_open_at = at; pins = pins; pinned = pinned; shows = v }
  there_by x there pins pinned (appending staged) at w e v f = absurd (cc)
  there_by x there pins pinned (rewriting runs unread) at (Append a) e v f = absurd v

  module _ (fine : fault s call ≡ None) where
    pub there_so : IsThere
    there_so = by (job_at n store.jobs.items) refl
      where
        by : (o : Option OpenJob) → job_at n store.jobs.items ≡ o → IsThere
        by None e =
            let none = job_not_found disk s.table.keys s.table.schema s.next_group s.options.group_rows s.had n (state_of store.snapshots).jobs store.jobs.items s.jobs here.jobs e in
            let c : rewrite_fault None ≡ None = ap rewrite_fault (sym none) ∙ passed s n fine in
            absurd (cc)
        by (Some x) e =
            let found = job_found disk s.table.keys s.table.schema s.next_group s.options.group_rows s.had n (state_of store.snapshots).jobs store.jobs.items s.jobs here.jobs x e in
            there_by x e found.2.pins (ap (λ (m : ℕ). pinned_at m (state_of store.snapshots).jobs) (sym found.2.number) ∙ found.2.pinned) found.0 found.1 x.work refl found.2.work
            (ap rewrite_fault (sym found.1) ∙ passed s n fine)

    abbrev pub t : IsThere
    t = there_so

    next_is : next_at (job_at n store.jobs.items) ≡ source_in t.r.runs.items (length t.r.read.items)
    next_is = ap next_at t.there ∙ ap next_in t.is

    -- the jobs are the same, where the rewrite has read as many as before
    same_jobs : changed_at n (rewriting t.runs t.unread) s.jobs ≡ s.jobs
    same_jobs = changed_same n (rewriting t.runs t.unread) s.jobs here.numbered_jobs.distinct t.is_open_at

    -- none is left to read
    pub step_none : next_at (job_at n store.jobs.items) ≡ None → ActsFrom state store store call (more false) s
    step_none none =
        let over : t.unread ≡ [] = nothing_left disk s.table.keys s.table.schema s.next_group s.options.group_rows s.had t.pins t.r t.runs t.unread t.shows (sym next_is ∙ none) in
        changes_nothing state store call (more false) s stands (
          fine,
          (
            false,
            refl,
            record {
              runs = t.runs;
              unread = t.unread;
              rest = t.unread;
              is_open = t.is_open_at;
              takes = subst (λ (ns : List ℕ). TakesOne ns ns) (sym over) refl;
              is_left = ap is_left (sym over);
              becomes = record { counter = s.next_group; rises = stays_there s call; is = ap (λ (js : List (ℕ × Job)). record s { jobs = js }) (sym same_jobs) };
            },
          ),
        )

    -- ---- the next source

    module _ (f : FileGroup) (next : next_at (job_at n store.jobs.items) ≡ Some f) where
      pub at_next : AtPlace disk s.table.keys s.table.schema s.next_group (length t.r.read.items) f (sources t.runs)
      at_next = next_there disk s.table.keys s.table.schema s.next_group s.options.group_rows s.had t.pins t.r t.runs t.unread t.shows f (sym next_is ∙ next)

      pub held_next : IsHeld disk [] (root_of store.manifest) f at_next.g
      held_next =
          subst (λ (ks : List KeyColumn). IsHeld disk [] (record (root_of store.manifest) { keys = ks }) f at_next.g) (sym stands.shows.keys)
          (subst (λ (fs : Fields). IsHeld disk [] (record (root_of store.manifest) { keys = s.table.keys; schema = fs }) f at_next.g) (sym stands.shows.schema)
          (held_alone disk (record (root_of store.manifest) { keys = s.table.keys; schema = s.table.schema }) s.next_group f at_next.g stands.shows.valid.keys at_next.stored at_next.described))

      module _ (vault : Vault D) (leaves : LeavesAll disk (state vault.disk)) where
        pub step_poor : ActsFrom state store (record store { vault = vault }) call (refused Memory) s
        step_poor = stays_put state store s stands is_open vault leaves call (refused Memory) (no_memory refl (ap not is_open) refl (stays s call refl))

        pub step_stopped : (e : Refusal) → HasCause IsDevice e → ActsFrom state store (record store { vault = vault }) call (refused e) s
        step_stopped Memory h = step_poor
        step_stopped e h = subst (λ (x : Refusal). ActsFrom state store (record store { vault = vault }) call (refused x) s) (sym h)
            (stays_put state store s stands is_open vault leaves call (refused Device) (refused_failed refl (ap not is_open) refl (stays s call refl)))

        -- ---- what the store stands in then

        abbrev mid : Core D
        mid = record store { vault = vault }

        abbrev now : DiskState
        now = state vault.disk

        still : Clears state store mid s
        still = still_so state store s stands is_open vault leaves

        here_then : ShowsOpen now mid s
        here_then = still.shows.shown is_open

        -- the rewrite shows on the disk as it is then
        abbrev found_then : (k : Job) × (open_at n s.jobs ≡ Some k) × ShowsJob now s.table.keys s.table.schema s.next_group s.options.group_rows s.had (state_of store.snapshots).jobs t.x (n, k)
        found_then = job_found now s.table.keys s.table.schema s.next_group s.options.group_rows s.had n (state_of store.snapshots).jobs store.jobs.items s.jobs here_then.jobs t.x t.there

        one_job : (a b : Job) → open_at n s.jobs ≡ Some a → open_at n s.jobs ≡ Some b → a ≡ b
        one_job a b e g = let both : Some a ≡ Some b = sym e ∙ g in cc

        abbrev pins_then : Pins
        pins_then = found_then.2.pins

        shows_then : ShowsRewrite now s.table.keys s.table.schema s.next_group s.options.group_rows s.had pins_then t.r t.runs t.unread
        shows_then =
            subst (λ (w : Work). ShowsWork now s.table.keys s.table.schema s.next_group s.options.group_rows s.had pins_then w (rewriting t.runs t.unread)) t.is
            (subst (λ (j : Job). ShowsWork now s.table.keys s.table.schema s.next_group s.options.group_rows s.had pins_then t.x.work j) (one_job found_then.0 (rewriting t.runs t.unread) found_then.1 t.is_open_at) found_then.2.work)

        next_then : AtPlace now s.table.keys s.table.schema s.next_group (length t.r.read.items) f (sources t.runs)
        next_then = next_there now s.table.keys s.table.schema s.next_group s.options.group_rows s.had pins_then t.r t.runs t.unread shows_then f (sym next_is ∙ next)

        same_group : next_then.g ≡ at_next.g
        same_group = heads next_then.g at_next.g _ _ (sym next_then.from ∙ at_next.from)
          where
            heads : (a b : Group) (xs ys : List Group) → a ∷ xs ≡ b ∷ ys → a ≡ b
            heads a b xs ys e = cc

        distinct_then : AreDistinct (job_numbers store.jobs.items)
        distinct_then = subst AreDistinct (sym (job_numbers_are state mid s still.shows is_open)) here_then.numbered_jobs.distinct

        module _ (q : Rewriting) (js : Vec OpenJob Global) (put : js.items ≡ with_work n (Rewrite q) store.jobs.items) where
          abbrev y : OpenJob
          y = record { number = n; work = Rewrite q }

          writes_on : WritesOn s.next_group t.x.work (Rewrite q)
          writes_on = record { distinct = tt; within = λ m low none. refl }

          apart : AreDistinct (numbers_of (written_in (jobs_with y store.jobs.items)))
          apart = parted_changed s.next_group y t.x writes_on store.jobs.items t.there distinct_then
              (written_below now s.table.keys s.table.schema s.next_group s.options.group_rows s.had (state_of store.snapshots).jobs store.jobs.items s.jobs here_then.jobs) here_then.parted

          stands_in : (unread : List ℕ) → ShowsRewrite now s.table.keys s.table.schema s.next_group s.options.group_rows s.had pins_then q t.runs unread
              → Shows state (record mid { jobs = js }) (record s { jobs = changed_at n (rewriting t.runs unread) s.jobs })
          stands_in unread shown = job_changed state mid s still.shows is_open y (rewriting t.runs unread)
              (record { number = refl; pins = pins_then; pinned = ap (λ (m : ℕ). pinned_at m (state_of store.snapshots).jobs) (sym found_then.2.number) ∙ found_then.2.pinned; work = shown })
              js (put ∙ put_changes n (Rewrite q) store.jobs.items distinct_then) apart

          -- nothing is kept
          pub step_unkept : q.runs ≡ t.r.runs → q.read.items ≡ t.r.read.items → ActsFrom state store (record mid { jobs = js }) call (refused Memory) s
          step_unkept one two =
              let happens : Happens s call (refused Memory) s = no_memory refl (ap not is_open) refl (stays s call refl) in
              record {
                after = s;
                happens = happens;
                survives = record { later = still.survives.later; each = still.survives.each; ended = still.survives.ended };
                stands = record {
                  reached = reached_on s stands.reached call (refused Memory) s happens;
                  shows = subst (λ (xs : List (ℕ × Job)). Shows state (record mid { jobs = js }) (record s { jobs = xs })) same_jobs
                      (stands_in t.unread (same_shown now s.table.keys s.table.schema s.next_group s.options.group_rows s.had pins_then t.r t.runs t.unread shows_then q one two));
                };
                past = still.past;
                doubt = λ is. absurd (cc);
                kept = λ keeps. kept_read state store (record mid { jobs = js }) (IsOlderFile s) keeps leaves;
              }

          -- the rows are kept
          module _ (rows : Vec CodeRow Global) (rows_are : rows_view rows.items ≡ at_next.g.rows) (one : q.runs ≡ t.r.runs) (two : q.read.items ≡ t.r.read.items ++ rows ∷ []) where
            rows_then : rows_view rows.items ≡ next_then.g.rows
            rows_then = rows_are ∙ ap (λ (g : Group). g.rows) (sym same_group)

            abbrev left : List ℕ
            left = rest now s.table.keys s.table.schema s.next_group s.options.group_rows s.had pins_then t.r t.runs t.unread shows_then f next_then stands.shows.valid.keys rows rows_then q one two

            abbrev after : State
            after = record s { jobs = changed_at n (rewriting t.runs left) s.jobs }

            pub step_kept : (b : Bool) → b ≡ is_some (next_in (Rewrite q)) → ActsFrom state store (record mid { jobs = js }) call (more b) s
            step_kept b is =
                let told = more_left now s.table.keys s.table.schema s.next_group s.options.group_rows s.had pins_then t.r t.runs t.unread shows_then f next_then stands.shows.valid.keys rows rows_then q one two in
                let takes = takes_one now s.table.keys s.table.schema s.next_group s.options.group_rows s.had pins_then t.r t.runs t.unread shows_then f next_then stands.shows.valid.keys rows rows_then q one two in
                let shown = read_more now s.table.keys s.table.schema s.next_group s.options.group_rows s.had pins_then t.r t.runs t.unread shows_then f next_then stands.shows.valid.keys rows rows_then q one two in
                let happens : Happens s call (more b) after = (
                  fine,
                  (
                    b,
                    refl,
                    record {
                      runs = t.runs;
                      unread = t.unread;
                      rest = left;
                      is_open = t.is_open_at;
                      takes = takes;
                      is_left = is ∙ sym told;
                      becomes = record { counter = s.next_group; rises = stays_there s call; is = refl };
                    },
                  ),
                ) in
                record {
                  after = after;
                  happens = happens;
                  survives = record { later = still.survives.later; each = still.survives.each; ended = still.survives.ended };
                  stands = record { reached = reached_on s stands.reached call (more b) after happens; shows = stands_in left shown };
                  past = still.past;
                  doubt = λ is. absurd (cc);
                  kept = λ keeps. kept_read state store (record mid { jobs = js }) (IsOlderFile s) keeps leaves;
                }

        -- what the code has kept
        module _ (w : Work) (js : Vec OpenJob Global) (put : js.items ≡ with_work n w store.jobs.items) where
          pub unkept_so : HasRead [] t.x.work w → ActsFrom state store (record mid { jobs = js }) call (refused Memory) s
          unkept_so read =
              let h : HasRead [] (Rewrite t.r) w = subst (λ (v : Work). HasRead [] v w) t.is read in
              step_unkept h.0 js (put ∙ ap (λ (v : Work). with_work n v store.jobs.items) h.1) h.2 (h.3 ∙ append-nil t.r.read.items)

          pub kept_so : (rows : Vec CodeRow Global) → rows_view rows.items ≡ at_next.g.rows → HasRead (rows ∷ []) t.x.work w → (b : Bool) → b ≡ is_some (next_at (job_at n js.items)) → ActsFrom state store (record mid { jobs = js }) call (more b) s
          kept_so rows rows_are read b is =
              let h : HasRead (rows ∷ []) (Rewrite t.r) w = subst (λ (v : Work). HasRead (rows ∷ []) v w) t.is read in
              step_kept h.0 js (put ∙ ap (λ (v : Work). with_work n v store.jobs.items) h.1) rows rows_are h.2 h.3 b
              (is ∙ ap (λ (xs : List OpenJob). is_some (next_at (job_at n xs))) put ∙ ap is_some (next_work n w store.jobs.items t.x t.there ∙ ap next_in h.1))
