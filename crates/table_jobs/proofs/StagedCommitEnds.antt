-- The commit of an append on which something is staged: how it ends.
use Rattle.std.proofs.Common.{◌≡◌, ◌≢◌, ◌≤◌, ◌<◌, ◌+◌, ◌⊎◌, ℕ, true, false, not, List, [], ◌∷◌, ◌++◌, map, flat_map, length, Some, None, Ok, Err, refl, sym, ◌∙◌, ap, subst, arith}
use Rattle.std.specs.Prelude.{nat_eq}
use Rattle.std.specs.List.{AllByRecursion, AllZip}
use Rattle.std.proofs.lemmas.List.{nil_from_length, append-nil}
use Rattle.std.proofs.lemmas.Bool.{and_from}
use Rattle.bits.specs.declared.refusal.Refusal.{Refusal}
use Rattle.bits.specs.declared.refusal.Refusal.TheVariants.{Limit, Device, Memory}
use Rattle.bits.specs.Refusals.{HasCause}
use Rattle.schema.specs.Keys.{key_of_row}
use Rattle.disk.specs.State.{State as DiskState}
use Rattle.vault.specs.Calls.{HasFailed}
use Rattle.partition.specs.declared.splitting.KeyRows.{KeyRows as CodeRows}
use Rattle.partition.specs.Splitting.{KeyRows, key_rows_view}
use Rattle.manifest.specs.declared.group.Group.{Group as CodeGroup}
use Rattle.std.specs.declared.rc.Rc.{Rc}
use Rattle.std.specs.declared.alloc.Global.{Global}
use Rattle.lists.proofs.Lists.{map_empty as no_mapped}
use Rattle.manifest.specs.Groups.{Group as FileGroup, root_of, handles_view}
use Rattle.manifest.specs.Laid.{IsRootTooHeavy}
use Rattle.manifest.specs.Laws.{RowsOfPartsFit}
use Rattle.planning.specs.Told.{IsNextOf}
use Rattle.planning.proofs.Showing.{placed_are_in_order}
use Rattle.planning.proofs.Kept.{placed_are_distinct}
use Rattle.table.specs.Table.{Row, Group, Table, rows}
use Rattle.table.specs.InOrder.{in_order}
use Rattle.table.specs.State.{State, appending, ended_at}
use Rattle.table.specs.Checks.{fault}
use Rattle.table.specs.Calls.{commit, done, refused}
use Rattle.table.specs.Leading.{Rises, job_rows}
use Rattle.table.specs.Limits.{IsOver, IsNewGroup, group as over_group}
use Rattle.table.specs.Refusing.{Happens, Stays, is_failure, no_memory, over as refused_over, failed as refused_failed}
use Rattle.table.proofs.Steady.{stays}
use Rattle.table_state.specs.declared.standing.Core.{Core}
use Rattle.table_state.specs.declared.jobs.OpenJob.{OpenJob}
use Rattle.table_state.specs.declared.jobs.Work.TheVariants.{Append}
use Rattle.table_state.specs.declared.jobs.Appending.{Appending}
use Rattle.table_state.specs.Lookups.{job_at}
use Rattle.table_state.specs.Stands.{AreWaiting, Stands}
use Rattle.table_commits.specs.Writing.{counted}
use Rattle.table_commits.specs.Committing.{with_version, IsPlanned, Turns}
use Rattle.table_commits.specs.Bringing.{files_with, grown}
use Rattle.table_commits.specs.Causes.{IsCommitRefusal}
use Rattle.table_commits.specs.Dropping.{rows_in}
use Rattle.table_state.specs.Promises.{ActsFrom}
use Rattle.table_jobs.specs.Staging.{is_nothing, finds_nothing, StagedIsReady}
use Rattle.table_commits.specs.Filling.{IsFilled, IsStopped, IsAny, WhyStopped}
use Rattle.table_commits.proofs.CommitsFromParts.{commits_act, refusals_act}
use Rattle.table_commits.proofs.GroupsInOrder.{sorted_behind}
use Rattle.table_commits.proofs.AppendCommits.{length_order}
use Rattle.table_jobs.proofs.StagedCommitGroups.{come, added, all_stored, long_wait, brought, both_rows}
use Rattle.table_commits.proofs.GroupRemovals.{has_reason}
use Rattle.table_jobs.proofs.StagedCommitTables.{staged_are_ready}
use Rattle.table_commits.proofs.SomeGroups.{rows_counted}
use Rattle.table_commits.proofs.UnchangedRefusals.{changes_nothing}
use Rattle.table_jobs.proofs.WaitingGoesOn.{long_enough}
use Rattle.table_jobs.proofs.StageEnds.{held, before, wait, moved, some_size}
use Rattle.table_jobs.proofs.StageGoesOn.{Held}

-- ---- nothing that waits

no_lists : (rss : List (List Row)) → AllByRecursion (λ (rs : List Row). 1 ≤ length rs) rss → flat_map (λ (rs : List Row). rs) rss ≡ [] → rss ≡ []
no_lists [] some e = refl
no_lists ([] ∷ rss) some e = absurd (omega (arith, some.0))
no_lists ((r ∷ rs) ∷ rss) some e = absurd (cc)

beside_nothing : {A B : Type 0} (R : A → B → Type 0) (xs : List A) (ys : List B) → ys ≡ [] → AllZip R xs ys → xs ≡ []
beside_nothing R [] [] e z = refl
beside_nothing R (x ∷ xs) [] e z = absurd z
beside_nothing R [] (y ∷ ys) e z = absurd (cc)
beside_nothing R (x ∷ xs) (y ∷ ys) e z = absurd (cc)

first_nil : {A : Type 0} (xs ys : List A) → xs ++ ys ≡ [] → xs ≡ []
first_nil [] ys e = refl
first_nil (x ∷ xs) ys e = absurd (cc)

second_nil : {A : Type 0} (xs ys : List A) → xs ++ ys ≡ [] → ys ≡ []
second_nil [] ys e = e
second_nil (x ∷ xs) ys e = absurd (cc)

module _ {D : Type 0} (state : D → DiskState) (old : Core D) (s : State) (stands : Stands state old s) (is_open : s.closed ≡ false) (n : ℕ) (fine : fault s (commit n) ≡ None) where
  pub poor_before : ActsFrom state old old (commit n) (refused Memory) s
  poor_before = changes_nothing state old (commit n) (refused Memory) s stands (no_memory refl (ap not is_open) refl (stays s (commit n) refl))

  module _ (x : OpenJob) (a : Appending) (there : job_at n old.jobs.items ≡ Some x) (is : x.work ≡ Append a) where
    abbrev here_held : Held state s n old s.next_group a
    here_held = held state old s stands is_open n x a there is

    abbrev waits : List Row
    waits = wait state old s stands is_open n x a there is

    -- ---- the rest is not all written

    more : length waits ≤ length here_held.staged
    more = long_wait state old s stands is_open n x a there is

    moved_here : (part : List Row) → IsNewGroup s waits part → IsNewGroup s here_held.staged part
    moved_here part p =
        subst (λ (rs : List Row). IsNewGroup s rs part) (append-nil here_held.staged)
        (moved state old s stands is_open n x a there is [] part (subst (λ (rs : List Row). IsNewGroup s rs part) (sym (append-nil waits)) p))

    rises : (mid : Core D) → s.next_group ≤ mid.next_group → mid.next_group ≤ s.next_group + length waits → Rises s (commit n) mid.next_group
    rises mid low high = record { most = length here_held.staged; work = sym (ap job_rows here_held.is_open); no_less = low; no_more = (let l = more in omega (arith, high, l)) }

    pub stopped : (mid : Core D) (e : Refusal) → IsStopped state old mid s IsAny waits e → ActsFrom state old mid (commit n) (refused e) s
    stopped mid e h = refusals_act state old mid s (commit n) mid.next_group e stands is_open h.wrote (why e h.why)
      where
        same : Stays s (commit n) (counted s mid.next_group)
        same = record { counter = mid.next_group; rises = rises mid h.wrote.rises h.no_more; is = refl }

        why : (f : Refusal) → WhyStopped state old mid s IsAny waits f → Happens s (commit n) (refused f) (counted s mid.next_group)
        why Device w = refused_failed refl (ap not is_open) refl same
        why Limit w = refused_over refl fine (over_group w.0 (appending here_held.staged, here_held.is_open, moved_here w.0 w.2) w.3) same
        why Memory w = no_memory refl (ap not is_open) refl same
        why f w = absurd w

    pub stopped_cause : (mid : Core D) (e : Refusal) → IsStopped state old mid s IsAny waits e → is_failure (refused e) ≡ true → HasFailed (state old.vault.disk) (state mid.vault.disk)
    stopped_cause mid e h is_one = by e h.why is_one
      where
        by : (f : Refusal) → WhyStopped state old mid s IsAny waits f → is_failure (refused f) ≡ true → HasFailed (state old.vault.disk) (state mid.vault.disk)
        by Device w i = w
        by Limit w i = absurd (cc)
        by Memory w i = absurd (cc)
        by f w i = absurd w

    -- ---- it is

    module _ (fit : RowsOfPartsFit) (something : finds_nothing (job_at n old.jobs.items) ≡ false) (mid : Core D) (files : List FileGroup) (f : IsFilled state old mid s (Some n) files waits) (jobs_same : mid.jobs ≡ old.jobs) where
      pub poor_after : ActsFrom state old mid (commit n) (refused Memory) s
      poor_after = stopped mid Memory (record { wrote = f.written.wrote; no_more = f.no_more; why = tt })

      abbrev some : 1 ≤ s.options.group_rows
      some = some_size state old s stands is_open n x a there is

      abbrev olds : List Group
      olds = before state old s stands is_open n x a there is

      abbrev come_then : List FileGroup
      come_then = come state old s stands is_open n x a there is fit some mid files f jobs_same

      abbrev added_then : List Group
      added_then = added state old s stands is_open n x a there is fit some mid files f jobs_same

      waiting_some : (ws : List KeyRows) (rss : List (List Row)) → AllZip (AreWaiting (state old.vault.disk) s.table.keys s.table.schema s.next_group s.options.group_rows s.had) ws rss → (long : (w : KeyRows) (rs : List Row) → AreWaiting (state old.vault.disk) s.table.keys s.table.schema s.next_group s.options.group_rows s.had w rs → 1 ≤ length rs)
          → AllByRecursion (λ (rs : List Row). 1 ≤ length rs) rss
      waiting_some [] [] z long = tt
      waiting_some (w ∷ ws) (rs ∷ rss) z long = (long w rs z.0, waiting_some ws rss z.1 long)
      waiting_some [] (rs ∷ rss) z long = absurd z
      waiting_some (w ∷ ws) [] z long = absurd z

      nothing_found : a.written.items ≡ [] → a.waiting.items ≡ [] → ⊥
      nothing_found none empty =
          let nothing : is_nothing (Append a) ≡ true = and_from (nat_eq (length a.written.items) 0) (nat_eq (length a.waiting.items) 0) (ap (λ (gs : List (Rc CodeGroup Global)). nat_eq (length gs) 0) none) (ap (λ (ws : List CodeRows). nat_eq (length ws) 0) empty) in
          let found : finds_nothing (job_at n old.jobs.items) ≡ true = ap finds_nothing there ∙ ap is_nothing is ∙ nothing in
          let c : true ≡ false = sym found ∙ something in cc

      some_added : added_then ≢ []
      some_added none =
          let lengths = length_order (λ (g : Group). g.key) (olds ++ f.groups) in
          let both_none : olds ++ f.groups ≡ [] = nil_from_length (olds ++ f.groups) (sym lengths ∙ ap (λ (gs : List Group). length gs) none) in
          let olds_none = first_nil olds f.groups both_none in
          let news_none = second_nil olds f.groups both_none in
          let hold : [] ≡ in_order (key_of_row s.table.keys) waits = ap (λ (gs : List Group). in_order (key_of_row s.table.keys) (rows gs)) (sym news_none) ∙ f.hold in
          let waits_none : waits ≡ [] = nil_from_length waits (sym (length_order (key_of_row s.table.keys) waits) ∙ ap (λ (rs : List Row). length rs) (sym hold)) in
          let lists_none = no_lists here_held.shows.waiting (waiting_some (map key_rows_view a.waiting.items) here_held.shows.waiting here_held.shows.are_waiting (λ w rs z. as_many w rs z)) waits_none in
          nothing_found (no_mapped _ a.written.items (beside_nothing _ (handles_view a.written.items) olds olds_none here_held.shows.are_written.stored))
          (no_mapped key_rows_view a.waiting.items (beside_nothing _ (map key_rows_view a.waiting.items) here_held.shows.waiting lists_none here_held.shows.are_waiting))
        where
          as_many : (w : KeyRows) (rs : List Row) → AreWaiting (state old.vault.disk) s.table.keys s.table.schema s.next_group s.options.group_rows s.had w rs → 1 ≤ length rs
          as_many w rs z = long_enough s.table.keys s.table.schema (state old.vault.disk) s.next_group s.options.group_rows s.had w rs z

      module _ (next : ℕ) (falls : s.table.next ≤ next) (above : AllByRecursion (λ (g : FileGroup). g.number < next) (handles_view a.written.items ++ files)) (least : (next ≡ s.table.next) ⊎ IsNextOf next (handles_view a.written.items ++ files)) where
        ready : StagedIsReady state mid s mid.next_group n here_held.staged come_then added_then next
        ready = staged_are_ready state old mid s mid.next_group n here_held.staged come_then added_then next stands is_open f.written.wrote
            (brought state old s stands is_open n x a there is fit some mid files f jobs_same next some_added falls above least) placed_are_in_order placed_are_distinct

        abbrev pub table_then : Table
        table_then = grown s added_then next

        module _ (gs : List FileGroup) (are : gs ≡ in_order (λ (g : FileGroup). g.key) ((root_of mid.manifest).groups ++ (handles_view a.written.items ++ files))) where
          same_files : files_with mid come_then ≡ gs
          same_files = sorted_behind (root_of mid.manifest).groups (handles_view a.written.items ++ files) ∙ sym are

          pub planned : IsPlanned (state mid.vault.disk) mid (counted s mid.next_group) table_then (ended_at n s.jobs) (Some n) (with_version (root_of mid.manifest) gs next)
          planned = subst (λ (hs : List FileGroup). IsPlanned (state mid.vault.disk) mid (counted s mid.next_group) table_then (ended_at n s.jobs) (Some n) (with_version (root_of mid.manifest) hs next)) same_files ready.planned

          pub too_heavy : IsRootTooHeavy (with_version (root_of mid.manifest) gs next) → IsOver s (commit n)
          too_heavy heavy = ready.over (subst (λ (hs : List FileGroup). IsRootTooHeavy (with_version (root_of mid.manifest) hs next)) (sym same_files) heavy)

          pub count_is : (m : ℕ) → m ≡ rows_in (handles_view a.written.items ++ files) → m ≡ length here_held.staged
          count_is m e = e ∙ rows_counted (state mid.vault.disk) s.table.keys s.table.schema mid.next_group (handles_view a.written.items ++ files) (olds ++ f.groups)
              (all_stored state old s stands is_open n x a there is fit some mid files f jobs_same) ∙ both_rows state old s stands is_open n x a there is fit some mid files f jobs_same

          pub done_so : (new : Core D) → Turns {T = Unit {0}} state mid new (counted s mid.next_group) table_then (ended_at n s.jobs) (Ok tt) → ActsFrom state old new (commit n) (done (length here_held.staged)) s
          done_so new turns = commits_act state old mid new s (commit n) (length here_held.staged) table_then mid.next_group (Ok tt) stands is_open (ready.asks fine) f.written.wrote tt turns

          pub refused_so : (new : Core D) (e : Refusal) → HasCause IsCommitRefusal e → (e ≡ Limit → IsOver s (commit n)) → Turns {T = Unit {0}} state mid new (counted s mid.next_group) table_then (ended_at n s.jobs) (Err e) → ActsFrom state old new (commit n) (refused e) s
          refused_so new e cause limit turns = commits_act state old mid new s (commit n) (length here_held.staged) table_then mid.next_group (Err e) stands is_open (ready.asks fine) f.written.wrote (has_reason (Unit {0}) s (commit n) e cause fine limit) turns
