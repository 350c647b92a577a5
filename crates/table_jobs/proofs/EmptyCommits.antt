-- The commit of an append of which nothing is staged, or of a rewrite of no sources: the job ends.
use Rattle.std.proofs.Common.{◌≡◌, ◌<◌, ℕ, Bool, true, false, not, nat_eq, List, [], ◌∷◌, ◌++◌, map, flat_map, length, Option, Some, None, refl, sym, ◌∙◌, ap, subst, arith}
use Rattle.std.specs.Prelude.{Vec}
use Rattle.std.specs.List.{AllZip}
use Rattle.std.specs.declared.alloc.Global.{Global}
use Rattle.std.proofs.lemmas.Bool.{and_parts, eqb-true, lt-ltb}
use Rattle.std.proofs.lemmas.List.{append-nil, nil_from_length}
use Rattle.bits.specs.declared.refusal.Refusal.{Refusal}
use Rattle.bits.specs.Refusals.{HasCause}
use Rattle.schema.specs.Keys.{key_of_row}
use Rattle.partition.specs.Splitting.{key_rows_view}
use Rattle.partition.specs.declared.splitting.KeyRows.{KeyRows as CodeRows}
use Rattle.disk.specs.State.{State as DiskState}
use Rattle.manifest.specs.Groups.{handles_view}
use Rattle.snapshots.specs.declared.state.Snapshots.{Snapshots}
use Rattle.snapshots.specs.State.{Pins, ended, after, fault_of, open_at as pinned_at}
use Rattle.snapshots.specs.Views.{state_of}
use Rattle.table.specs.Table.{Row, Group, rows}
use Rattle.table.specs.InOrder.{in_order}
use Rattle.table.specs.Commits.{appended, rewritten}
use Rattle.table.specs.State.{State, Job, appending, rewriting, open_at, ended_at}
use Rattle.table.specs.Faults.{first}
use Rattle.table.specs.Checks.{fault, job_fault, stale_fault}
use Rattle.table.specs.Calls.{commit, done, refused}
use Rattle.table.specs.Leading.{Leads, IsDone, job_rows}
use Rattle.table.proofs.Counters.{counters_cover}
use Rattle.table_state.specs.declared.standing.Core.{Core}
use Rattle.table_state.specs.declared.jobs.OpenJob.{OpenJob}
use Rattle.table_state.specs.declared.jobs.Appending.{Appending}
use Rattle.table_state.specs.declared.jobs.Work.{Work}
use Rattle.table_state.specs.declared.jobs.Work.TheVariants.{Append, Rewrite}
use Rattle.table_state.specs.Lookups.{job_at, jobs_left}
use Rattle.table_jobs.specs.Staging.{is_nothing, finds_nothing}
use Rattle.table_state.specs.Stands.{ShowsWork, ShowsOpen, Shows, Stands}
use Rattle.table_commits.specs.Cleaning.{Clears}
use Rattle.table_state.specs.Promises.{ActsFrom}
use Rattle.table_reads.proofs.AfterEvents.{job_found}
use Rattle.table_reads.proofs.SomethingOpens.{only_memory}
use Rattle.table_reads.proofs.SomethingEnds.{job_unrefused, job_ended, ends, refused_poor}
use Rattle.table_commits.proofs.AppendCommits.{length_order}
use Rattle.table_jobs.proofs.JobChecks.{commit_fault}
use Rattle.table_commits.proofs.NumbersHad.{had_same}
use Rattle.table_commits.proofs.SomeGroups.{none_go}
use Rattle.table_commits.proofs.GroupsInOrder.{stays_in_order}

-- groups in table order stay as they are
-- what goes side by side with nothing is nothing
pub nothing_beside : {A B : Type 0} (R : A → B → Type 0) (xs : List A) (ys : List B) → xs ≡ [] → AllZip R xs ys → ys ≡ []
nothing_beside R [] [] e z = refl
nothing_beside R [] (y ∷ ys) e z = absurd z
nothing_beside R (x ∷ xs) ys e z = absurd (cc)

module _ {D : Type 0} (state : D → DiskState) (store : Core D) (s : State) (stands : Stands state store s) (is_open : s.closed ≡ false) (n : ℕ) where
  abbrev disk : DiskState
  disk = state store.vault.disk

  here : ShowsOpen disk store s
  here = stands.shows.shown is_open

  abbrev Work_of : Pins → Work → Job → Type 0
  Work_of pins w j = ShowsWork disk s.table.keys s.table.schema s.next_group s.options.group_rows s.had pins w j

  none_staged : (pins : Pins) (a : Appending) (staged : List Row) → is_nothing (Append a) ≡ true → Work_of pins (Append a) (appending staged) → staged ≡ []
  none_staged pins a staged e is =
      let parts = and_parts (nat_eq (length a.written.items) 0) (nat_eq (length a.waiting.items) 0) e in
      let written : a.written.items ≡ [] = nil_from_length a.written.items (eqb-true (length a.written.items) 0 parts.0) in
      let waiting : a.waiting.items ≡ [] = nil_from_length a.waiting.items (eqb-true (length a.waiting.items) 0 parts.1) in
      let groups : is.groups ≡ [] = nothing_beside _ (handles_view a.written.items) is.groups (ap (λ xs. handles_view xs) written) is.are_written.stored in
      let rest_is : is.waiting ≡ [] = nothing_beside _ (map key_rows_view a.waiting.items) is.waiting (ap (λ (xs : List CodeRows). map key_rows_view xs) waiting) is.are_waiting in
      let key = key_of_row s.table.keys in
      let all : [] ≡ in_order key staged = sym (ap (λ (gs : List Group). in_order key (rows gs ++ flat_map (λ (rs : List Row). rs) is.waiting)) groups ∙ ap (λ (rss : List (List Row)). in_order key (flat_map (λ (rs : List Row). rs) rss)) rest_is) ∙ is.all in
      nil_from_length staged (sym (length_order key staged) ∙ ap (λ (rs : List Row). length rs) (sym all))

  -- nothing is staged, or there are no runs
  abbrev IsEmpty : Job → Type 0
  IsEmpty (appending staged) = staged ≡ []
  IsEmpty (rewriting runs unread) = runs ≡ []

  nothing_told : (pins : Pins) (w : Work) (j : Job) → is_nothing w ≡ true → Work_of pins w j → IsEmpty j
  nothing_told pins (Append a) (appending staged) e is = none_staged pins a staged e is
  nothing_told pins (Append a) (rewriting runs unread) e is = absurd is
  nothing_told pins (Rewrite r) (rewriting runs unread) e is = nothing_beside _ r.runs.items runs (nil_from_length r.runs.items (eqb-true (length r.runs.items) 0 e)) is.each
  nothing_told pins (Rewrite r) (appending staged) e is = absurd is

  record IsFound : Type 0 where
    pins : Pins
    pinned : pinned_at n (state_of store.snapshots).jobs ≡ Some pins
    job : Job
    there : open_at n s.jobs ≡ Some job
    empty : IsEmpty job

  found_so : finds_nothing (job_at n store.jobs.items) ≡ true → IsFound
  found_so e = by (job_at n store.jobs.items) refl e
    where
      by : (o : Option OpenJob) → job_at n store.jobs.items ≡ o → finds_nothing o ≡ true → IsFound
      by None none f = absurd (cc)
      by (Some x) some f =
          let is = job_found disk s.table.keys s.table.schema s.next_group s.options.group_rows s.had n (state_of store.snapshots).jobs store.jobs.items s.jobs here.jobs x some in
          record {
            pins = is.2.pins;
            pinned = ap (λ (m : ℕ). pinned_at m (state_of store.snapshots).jobs) (sym is.2.number) ∙ is.2.pinned;
            job = is.0;
            there = is.1;
            empty = nothing_told is.2.pins x.work is.0 f is.2.work;
          }

  module _ (nothing : finds_nothing (job_at n store.jobs.items) ≡ true) (low : s.next_group < 9223372036854775808) where
    found : IsFound
    found = found_so nothing

    not_stale : (j : Job) → IsEmpty j → first (None ∷ None ∷ None ∷ stale_fault s.table (Some j) ∷ []) ≡ None
    not_stale (appending staged) e = refl
    not_stale (rewriting runs unread) e = ap (λ (gss : List (List Group)). first (None ∷ None ∷ None ∷ stale_fault s.table (Some (rewriting gss unread)) ∷ [])) e

    unfaulted : fault s (commit n) ≡ None
    unfaulted = commit_fault state store s stands is_open n None true (ap job_fault found.there) (lt-ltb s.next_group 9223372036854775808 low)
        ∙ ap (λ (o : Option Job). first (None ∷ None ∷ None ∷ stale_fault s.table o ∷ [])) found.there ∙ not_stale found.job found.empty

    no_fault : fault_of (state_of store.snapshots) (ended n) ≡ None
    no_fault = job_unrefused state store s stands is_open n found.pins found.pinned

    pub empty_refused : (e : Refusal) → HasCause (λ f. fault_of (state_of store.snapshots) (ended n) ≡ Some f) e → (snapshots : Snapshots) → state_of snapshots ≡ state_of store.snapshots
        → ActsFrom state store (record store { snapshots = snapshots }) (commit n) (refused e) s
    empty_refused e cause snapshots same = subst (λ (f : Refusal). ActsFrom state store (record store { snapshots = snapshots }) (commit n) (refused f) s) (sym (only_memory (fault_of (state_of store.snapshots) (ended n)) no_fault e cause))
        (refused_poor state store s stands is_open (commit n) refl (ap not is_open) refl snapshots store.jobs store.cursors same refl refl)

    leads_of : (j : Job) → open_at n s.jobs ≡ Some j → IsEmpty j → Leads s (commit n) 0 s.table s.next_group
    leads_of (appending staged) e none =
        let open_is : open_at n s.jobs ≡ Some (appending []) = e ∙ ap (λ (rs : List Row). Some (appending rs)) none in
        record {
          made = appended [];
          asked = (appending [], open_is, refl);
          step = record {
            schema = refl;
            keys = refl;
            change = (
              record {
                added = [];
                placed = sym (ap (in_order (λ (h : Group). h.key)) (append-nil s.table.groups) ∙ stays_in_order s.table.groups stands.shows.valid.in_order);
                hold = refl;
                full = refl;
                fresh = refl;
              },
              refl,
            );
            table = stands.shows.valid;
            never_falls = omega arith;
            same = λ of_groups same. refl;
          };
          rises = record { most = 0; work = sym (ap job_rows open_is); no_less = omega arith; no_more = omega arith };
          covers = (counters_cover s stands.reached).next;
        }
    leads_of (rewriting runs unread) e none =
        let open_is : open_at n s.jobs ≡ Some (rewriting [] unread) = e ∙ ap (λ (gss : List (List Group)). Some (rewriting gss unread)) none in
        record {
          made = rewritten [];
          asked = (rewriting [] unread, open_is, refl);
          step = record {
            schema = refl;
            keys = refl;
            change = (refl, sym (ap (λ (gs : List Group). length (rows gs)) (none_go s.table.groups)));
            table = stands.shows.valid;
            never_falls = omega arith;
            same = λ of_groups same. refl;
          };
          rises = record { most = 0; work = sym (ap job_rows open_is); no_less = omega arith; no_more = omega arith };
          covers = (counters_cover s stands.reached).next;
        }

    pub empty_done : (snapshots : Snapshots) → state_of snapshots ≡ after (state_of store.snapshots) (ended n) → (jobs : Vec OpenJob Global) → jobs.items ≡ jobs_left (Some n) store.jobs.items → (new : Core D)
        → ((t : State) → Shows state (record store { snapshots = snapshots; jobs = jobs }) t → t.closed ≡ false → Clears state (record store { snapshots = snapshots; jobs = jobs }) new t)
        → (store.keeps ≡ true → new ≡ record store { snapshots = snapshots; jobs = jobs }) → ActsFrom state store new (commit n) (done 0) s
    empty_done snapshots steps jobs left new clears still =
        let next = record s { jobs = ended_at n s.jobs } in
        let is : IsDone s (commit n) (done 0) next = record {
          n = 0;
          table = s.table;
          counter = s.next_group;
          leads = leads_of found.job found.there found.empty;
          answers = refl;
          becomes = ap (λ (h : ℕ → Bool). record s { jobs = ended_at n s.jobs; had = h }) (sym (had_same s stands.reached));
        } in
        ends state store s stands is_open (commit n) (done 0) next (unfaulted, is) refl snapshots jobs store.cursors new (clears next (job_ended state store s stands is_open n snapshots steps jobs left) is_open) still
