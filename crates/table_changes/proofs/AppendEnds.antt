-- An append, once its rows are written or are not.
use Rattle.std.proofs.Common.{◌≡◌, ◌≢◌, ◌≤◌, ◌<◌, ◌+◌, ◌⊎◌, ℕ, Bool, true, false, not, List, [], ◌∷◌, ◌++◌, length, None, Some, Ok, Err, refl, sym, ◌∙◌, ap, subst, arith, ⊎_elim}
use Rattle.std.specs.Prelude.{Option}
use Rattle.std.specs.List.{AllByRecursion}
use Rattle.std.proofs.lemmas.List.{nil_from_length}
use Rattle.bits.specs.declared.refusal.Refusal.{Refusal}
use Rattle.bits.specs.declared.refusal.Refusal.TheVariants.{Limit, Device, Memory, Closed, Full}
use Rattle.bits.specs.Refusals.{HasCause}
use Rattle.schema.specs.Keys.{key_of_row, without_keys}
use Rattle.disk.specs.State.{State as DiskState}
use Rattle.vault.specs.Calls.{HasFailed}
use Rattle.manifest.specs.Groups.{Group as FileGroup, root_of}
use Rattle.manifest.specs.Records.{IsGroup}
use Rattle.manifest.specs.Laid.{IsRootTooHeavy}
use Rattle.planning.specs.Told.{IsNextOf}
use Rattle.planning.proofs.Showing.{placed_are_in_order}
use Rattle.planning.proofs.Kept.{placed_are_distinct}
use Rattle.table.specs.Table.{Row, Group, Table, rows, IsGroupIn}
use Rattle.table.specs.InOrder.{in_order}
use Rattle.table.specs.State.{State}
use Rattle.table.specs.Faults.{first, unless}
use Rattle.table.specs.Checks.{fault, rows_fault, can_count}
use Rattle.table.specs.Calls.{append, done, refused}
use Rattle.table.specs.Leading.{Rises}
use Rattle.table.specs.Limits.{IsOver, group as over_group}
use Rattle.table.specs.Refusing.{Happens, is_failure, over as refused_over, no_memory, failed as refused_failed, Stays}
use Rattle.table.proofs.Counters.{counters_cover}
use Rattle.partition.proofs.KeyColumns.{keys_can}
use Rattle.table_state.specs.declared.standing.Core.{Core}
use Rattle.table_state.specs.Stands.{AreStored, Stands}
use Rattle.table_commits.specs.Writing.{counted}
use Rattle.table_commits.specs.Committing.{with_version, IsPlanned, Turns}
use Rattle.table_commits.specs.Acting.{WroteTo}
use Rattle.table_state.specs.Promises.{ActsFrom}
use Rattle.table_commits.specs.Causes.{IsCommitRefusal}
use Rattle.table_commits.specs.Bringing.{IsBrought, files_with, grown, AppendIsReady}
use Rattle.table_commits.specs.Filling.{HasWritten, IsFilled, WhyStopped, IsStopped, IsAny, AreFine}
use Rattle.table_commits.proofs.FilesSoFar.{wrote_nothing}
use Rattle.table_commits.proofs.CommitsFromParts.{commits_act, refusals_act}
use Rattle.table_commits.proofs.AppendCommits.{all_order, length_order, stored_order, appends_are_ready}
use Rattle.table_commits.proofs.GroupRemovals.{has_reason}
use Rattle.table_commits.proofs.GroupsByKey.{rows_in_order, groups_keyed}
use Rattle.table_commits.proofs.GroupsInOrder.{sorted_behind}
use Rattle.table_commits.proofs.FineRows.{fine_rows}

no_fault : (s : State) (given : List Row) → fault s (append given) ≡ None → rows_fault s.table given ≡ None
no_fault s given e = by (not s.closed) (can_count s.next_group) (rows_fault s.table given) e
  where
    by : (a b : Bool) (o : Option Refusal) → first (unless a Closed ∷ unless b Full ∷ o ∷ []) ≡ None → o ≡ None
    by true true None f = refl
    by true true (Some r) f = absurd (cc)
    by true false o f = absurd (cc)
    by false b o f = absurd (cc)

module _ {D : Type 0} (state : D → DiskState) (old : Core D) (s : State) (stands : Stands state old s) (is_open : s.closed ≡ false) (given : List Row) (fine : fault s (append given) ≡ None) where
  pub all_fine : AreFine s given
  all_fine = fine_rows s.table (keys_can s.table.keys s.table.schema stands.shows.valid.schema.0.differ stands.shows.valid.keys) given (no_fault s given fine)

  -- nothing is written yet
  pub starts : HasWritten state old old s None [] []
  starts = record {
    wrote = subst (λ (n : ℕ). WroteTo state old old s n) (sym stands.shows.next_group) (wrote_nothing state old s stands.shows is_open);
    no_less = omega arith;
    job_open = refl;
    stored = tt;
    held = tt;
    described = tt;
    above = tt;
    distinct = tt;
  }

  rises : (mid : Core D) → s.next_group ≤ mid.next_group → mid.next_group ≤ s.next_group + length given → Rises s (append given) mid.next_group
  rises mid low high = record { most = length given; work = refl; no_less = low; no_more = high }

  stays : (mid : Core D) → s.next_group ≤ mid.next_group → mid.next_group ≤ s.next_group + length given → Stays s (append given) (counted s mid.next_group)
  stays mid low high = record { counter = mid.next_group; rises = rises mid low high; is = refl }

  -- the rows are not all written
  pub stopped : (mid : Core D) (e : Refusal) → IsStopped state old mid s IsAny given e → ActsFrom state old mid (append given) (refused e) s
  stopped mid e h = refusals_act state old mid s (append given) mid.next_group e stands is_open h.wrote (why e h.why)
    where
      same : Stays s (append given) (counted s mid.next_group)
      same = stays mid h.wrote.rises h.no_more

      why : (f : Refusal) → WhyStopped state old mid s IsAny given f → Happens s (append given) (refused f) (counted s mid.next_group)
      why Device w = refused_failed refl (ap not is_open) refl same
      why Limit w = refused_over refl fine (over_group w.0 w.2 w.3) same
      why Memory w = no_memory refl (ap not is_open) refl same
      why f w = absurd w

  pub stopped_cause : (mid : Core D) (e : Refusal) → IsStopped state old mid s IsAny given e → is_failure (refused e) ≡ true → HasFailed (state old.vault.disk) (state mid.vault.disk)
  stopped_cause mid e h is = by e h.why is
    where
      by : (f : Refusal) → WhyStopped state old mid s IsAny given f → is_failure (refused f) ≡ true → HasFailed (state old.vault.disk) (state mid.vault.disk)
      by Device w i = w
      by Limit w i = absurd (cc)
      by Memory w i = absurd (cc)
      by f w i = absurd w

  module _ (some : given ≢ []) (mid : Core D) (files : List FileGroup) (filled : IsFilled state old mid s None files given) where
    abbrev come : List FileGroup
    come = in_order (λ (g : FileGroup). g.key) files

    abbrev added : List Group
    added = in_order (λ (g : Group). g.key) filled.groups

    -- out of memory before the commit
    pub poor_after : ActsFrom state old mid (append given) (refused Memory) s
    poor_after = stopped mid Memory (record { wrote = filled.written.wrote; no_more = filled.no_more; why = tt })

    some_added : added ≢ []
    some_added none =
        let a = length_order (λ (g : Group). g.key) filled.groups in
        let b = ap (λ (gs : List Group). length gs) none in
        let no_groups = nil_from_length filled.groups (sym a ∙ b) in
        let e : in_order (key_of_row s.table.keys) [] ≡ in_order (key_of_row s.table.keys) given = ap (λ (gs : List Group). in_order (key_of_row s.table.keys) (rows gs)) (sym no_groups) ∙ filled.hold in
        some (nil_from_length given (sym (length_order (key_of_row s.table.keys) given) ∙ ap length (sym e)))

    module _ (next : ℕ) (falls : s.table.next ≤ next) (above : AllByRecursion (λ (g : FileGroup). g.number < next) files) (least : (next ≡ s.table.next) ⊎ IsNextOf next files) where
      covered : next ≤ mid.next_group
      covered = ⊎_elim
          (λ same. let a = (counters_cover s stands.reached).next in let b = filled.written.wrote.rises in omega (arith, same, a, b))
          (λ at. by files filled.groups filled.written.stored at)
          least
        where
          by : (fs : List FileGroup) (gs : List Group) → AreStored (state mid.vault.disk) s.table.keys s.table.schema mid.next_group fs gs → IsNextOf next fs → next ≤ mid.next_group
          by [] gs z at = absurd at
          by (f ∷ fs) [] z at = absurd z
          by (f ∷ fs) (g ∷ gs) z at = ⊎_elim (λ is. let low = z.0.below in omega (arith, is, low)) (λ later. by fs gs z.1 later) at

      pub brought : IsBrought state mid s mid.next_group given come added next
      brought = record {
        stored = stored_order (state mid.vault.disk) s.table.keys s.table.schema mid.next_group files filled.groups filled.written.stored;
        described = all_order (λ (g : FileGroup). g.key) (IsGroup s.table.keys (without_keys s.table.keys s.table.schema)) files filled.written.described;
        each = all_order (λ (g : Group). g.key) (IsGroupIn s.table.schema s.table.keys) filled.groups filled.each;
        above = all_order (λ (g : FileGroup). g.key) (λ (g : FileGroup). s.next_group ≤ g.number) files filled.written.above;
        distinct = placed_are_distinct files filled.written.distinct;
        some = some_added;
        hold = rows_in_order s.table.keys filled.groups (groups_keyed s.table.keys s.table.schema filled.groups filled.each) ∙ filled.hold;
        full = filled.full;
        rises = rises mid filled.written.wrote.rises filled.no_more;
        never_falls = falls;
        below = all_order (λ (g : FileGroup). g.key) (λ (g : FileGroup). g.number < next) files above;
        covered = covered;
      }

      ready : AppendIsReady state mid s mid.next_group given come added next
      ready = appends_are_ready state old mid s mid.next_group given come added next (record {
        stands = stands;
        is_open = is_open;
        wrote = filled.written.wrote;
        brought = brought;
        ordered = placed_are_in_order;
        parted = placed_are_distinct;
      })

      abbrev table_then : Table
      table_then = grown s added next

      module _ (gs : List FileGroup) (are : gs ≡ in_order (λ (g : FileGroup). g.key) ((root_of mid.manifest).groups ++ files)) where
        same_files : files_with mid come ≡ gs
        same_files = sorted_behind (root_of mid.manifest).groups files ∙ sym are

        pub planned : IsPlanned (state mid.vault.disk) mid (counted s mid.next_group) table_then s.jobs None (with_version (root_of mid.manifest) gs next)
        planned = subst (λ (hs : List FileGroup). IsPlanned (state mid.vault.disk) mid (counted s mid.next_group) table_then s.jobs None (with_version (root_of mid.manifest) hs next)) same_files ready.planned

        pub too_heavy : IsRootTooHeavy (with_version (root_of mid.manifest) gs next) → IsOver s (append given)
        too_heavy heavy = ready.over (subst (λ (hs : List FileGroup). IsRootTooHeavy (with_version (root_of mid.manifest) hs next)) (sym same_files) heavy)

        pub done_so : (new : Core D) → Turns {T = Unit {0}} state mid new (counted s mid.next_group) table_then s.jobs (Ok tt) → ActsFrom state old new (append given) (done (length given)) s
        done_so new turns = commits_act state old mid new s (append given) (length given) table_then mid.next_group (Ok tt) stands is_open (ready.asks fine) filled.written.wrote tt turns

        pub refused_so : (new : Core D) (e : Refusal) → HasCause IsCommitRefusal e → (e ≡ Limit → IsOver s (append given)) → Turns {T = Unit {0}} state mid new (counted s mid.next_group) table_then s.jobs (Err e) → ActsFrom state old new (append given) (refused e) s
        refused_so new e cause limit turns = commits_act state old mid new s (append given) (length given) table_then mid.next_group (Err e) stands is_open (ready.asks fine) filled.written.wrote (has_reason (Unit {0}) s (append given) e cause fine limit) turns
