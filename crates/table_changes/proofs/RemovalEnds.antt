-- A removal of rows, once all groups are judged or are not.
use Rattle.std.proofs.Common.{◌≡◌, ◌≢◌, ◌≤◌, ◌<◌, ◌+◌, ◌⊎◌, ℕ, Bool, true, false, not, List, [], ◌∷◌, ◌++◌, drop, filter, length, None, Result, Ok, Err, refl, sym, ◌∙◌, ap, subst, arith, inl, inr, ⊎_elim}
use Rattle.std.specs.List.{AllByRecursion, AllZip}
use Rattle.std.proofs.lemmas.Bool.{and_from}
use Rattle.std.proofs.lemmas.List.{append-nil}
use Rattle.lists.proofs.Slices.{drop_past as drop_all}
use Rattle.lists.proofs.Lists.{all_weaker as all_so}
use Rattle.bits.specs.declared.refusal.Refusal.{Refusal}
use Rattle.bits.specs.declared.refusal.Refusal.TheVariants.{Limit, Device, Memory, Page}
use Rattle.bits.specs.Refusals.{HasCause}
use Rattle.schema.specs.Keys.{AreDistinct, without_keys}
use Rattle.schema.specs.Stripe.{leaves_of}
use Rattle.filter.specs.Test.{Test}
use Rattle.filter.specs.Terms.{tests_of}
use Rattle.filter.specs.Deciding.{satisfies as all_satisfied}
use Rattle.disk.specs.State.{State as DiskState}
use Rattle.vault.specs.Calls.{HasFailed}
use Rattle.partition.specs.Order.{AreInTableOrder}
use Rattle.manifest.specs.Groups.{Group as FileGroup, Root, root_of, keys_of}
use Rattle.manifest.specs.Records.{IsGroup}
use Rattle.manifest.specs.Root.{IsDescription, stored_of}
use Rattle.manifest.specs.Laid.{IsRootTooHeavy}
use Rattle.snapshots.specs.State.{first_of, unless as unless_so}
use Rattle.snapshots.specs.Views.{state_of}
use Rattle.planning.specs.Told.{numbers_of, IsNextOf}
use Rattle.planning.specs.Numbered.{brought}
use Rattle.planning.specs.Replaced.{Change, changes_view, replaced}
use Rattle.planning.proofs.Kept.{replaced_are_in_order}
use Rattle.planning.proofs.Numbered.{replaced_are_distinct}
use Rattle.table.specs.Table.{Row, Group, Table, IsTable, IsGroupIn, rows}
use Rattle.table.specs.Commits.{removed as removed_rows, Removes}
use Rattle.table.specs.State.{State}
use Rattle.table.specs.Deciding.{Filter as Terms, passes}
use Rattle.table.specs.Checks.{fault}
use Rattle.table.specs.Calls.{Call, remove, done, refused}
use Rattle.table.specs.Leading.{Leads, Rises, IsDone, test, touched}
use Rattle.table.specs.Limits.{IsOver, group as over_group, root as over_root}
use Rattle.table.specs.Refusing.{Happens, is_failure, over as refused_over, no_memory, failed as refused_failed, Stays}
use Rattle.table.proofs.Counters.{counters_cover}
use Rattle.table_state.specs.declared.standing.Core.{Core}
use Rattle.table_changes.specs.declared.removing.Removed.{Removed}
use Rattle.table_state.specs.Paths.{IsOlder}
use Rattle.table_state.specs.Stands.{AreStored, ShowsOpen, Stands}
use Rattle.table_commits.specs.Writing.{counted}
use Rattle.table_commits.specs.Committing.{with_version, IsPlanned, Turns}
use Rattle.table_commits.specs.Acting.{WroteTo, AsksCommit}
use Rattle.table_state.specs.Promises.{ActsFrom}
use Rattle.table_commits.specs.Causes.{IsCommitRefusal}
use Rattle.table_commits.specs.Filling.{HasWritten}
use Rattle.table_changes.specs.Removing.{Outcome, IsLeft, not_those, files_come, groups_come, changes_for, HasReplaced, IsHalted, WhyHalted}
use Rattle.table_commits.proofs.FilesSoFar.{wrote_nothing}
use Rattle.table_commits.proofs.CommitsFromParts.{commits_act, refusals_act}
use Rattle.table_commits.proofs.StateCarriedOver.{root_is_older, file_is_older, past_of, survives_spared}
use Rattle.table_commits.proofs.OneCallMore.{reached_on}
use Rattle.table_commits.proofs.OlderFiles.{kept_spared}
use Rattle.table_commits.proofs.NumbersHad.{had_all, had_same}
use Rattle.table_commits.proofs.JobsAfterCommits.{jobs_left_so}
use Rattle.table_commits.proofs.SomeGroups.{distinct_test, order_test, same_numbers}
use Rattle.table_commits.proofs.PlannedWeights.{too_heavy_is_too_much}
use Rattle.table_commits.proofs.AppendCommits.{distinct_append, at_number, each_number, same_keys, numbers_too, numbers_back}
use Rattle.table_commits.proofs.GroupRemovals.{has_reason}
use Rattle.table_changes.proofs.GroupsReplaced.{as_many}
use Rattle.table_changes.proofs.WhatRemains.{HaveCome, have_come, files_then, groups_then, replaced_are, stored_then, keyed_then, all_then, each_then, none_pass, all_stay, brought_are, renumbered, rests_then, fresh_then}

module _ {D : Type 0} (state : D → DiskState) (old : Core D) (s : State) (stands : Stands state old s) (is_open : s.closed ≡ false) where
  -- nothing is written yet
  pub begins : HasWritten state old old s None [] []
  begins = record {
    wrote = subst (λ (n : ℕ). WroteTo state old old s n) (sym stands.shows.next_group) (wrote_nothing state old s stands.shows is_open);
    no_less = omega arith;
    job_open = refl;
    stored = tt;
    held = tt;
    described = tt;
    above = tt;
    distinct = tt;
  }

  had_below : (n : ℕ) → s.had n ≡ true → n < s.next_group
  had_below = (counters_cover s stands.reached).had

  not_had : (n : ℕ) → s.next_group ≤ n → s.had n ≡ false
  not_had n high = by (s.had n) refl
    where
      by : (b : Bool) → s.had n ≡ b → s.had n ≡ false
      by true e = let low = had_below n e in absurd (omega (arith, low, high))
      by false e = e

  module _ (terms : Terms) (fine : fault s (remove terms) ≡ None) where
    abbrev call : Call
    call = remove terms

    abbrev pass : Row → Bool
    pass = test s terms

    abbrev old_groups : List Group
    old_groups = s.table.groups

    rises : (mid : Core D) → s.next_group ≤ mid.next_group → mid.next_group ≤ s.next_group + length (rows (touched pass old_groups)) → Rises s call mid.next_group
    rises mid low high = record { most = length (rows (touched pass old_groups)); work = refl; no_less = low; no_more = high }

    stays_there : (mid : Core D) → s.next_group ≤ mid.next_group → mid.next_group ≤ s.next_group + length (rows (touched pass old_groups)) → Stays s call (counted s mid.next_group)
    stays_there mid low high = record { counter = mid.next_group; rises = rises mid low high; is = refl }

    -- what is said of the tests of its terms is said of the rows that they pass
    module _ (tests : List (List Test)) (made : tests_of (leaves_of s.table.schema) terms ≡ Ok tests) (mid : Core D) where
      pub halted_by : (e : Refusal) → IsHalted state old mid s (all_satisfied tests) e → IsHalted state old mid s pass e
      halted_by e h = subst (λ (o : Result (List (List Test)) Refusal). IsHalted state old mid s (passes o) e) (sym made) h

      pub replaced_by : (removed : Removed) → HasReplaced state old mid s (all_satisfied tests) (length old_groups) removed → HasReplaced state old mid s pass (length old_groups) removed
      replaced_by removed h = subst (λ (o : Result (List (List Test)) Refusal). HasReplaced state old mid s (passes o) (length old_groups) removed) (sym made) h

    -- not all groups are judged
    pub halted : (mid : Core D) (e : Refusal) → IsHalted state old mid s pass e → ActsFrom state old mid call (refused e) s
    halted mid e h = refusals_act state old mid s call mid.next_group e stands is_open h.wrote (why e h.why)
      where
        same : Stays s call (counted s mid.next_group)
        same = stays_there mid h.wrote.rises h.no_more

        why : (f : Refusal) → WhyHalted state old mid s pass f → Happens s call (refused f) (counted s mid.next_group)
        why Device w = refused_failed refl (ap not is_open) refl same
        why Limit w = refused_over refl fine (over_group (not_those pass w.0.rows) (w.0, w.1, refl) w.2) same
        why Memory w = no_memory refl (ap not is_open) refl same
        why f w = absurd w

    pub halted_cause : (mid : Core D) (e : Refusal) → IsHalted state old mid s pass e → is_failure (refused e) ≡ true → HasFailed (state old.vault.disk) (state mid.vault.disk)
    halted_cause mid e h is = by e h.why is
      where
        by : (f : Refusal) → WhyHalted state old mid s pass f → is_failure (refused f) ≡ true → HasFailed (state old.vault.disk) (state mid.vault.disk)
        by Device w i = w
        by Limit w i = absurd (cc)
        by Memory w i = absurd (cc)
        by f w i = absurd w

    module _ (mid : Core D) (removed : Removed) (r : HasReplaced state old mid s pass (length old_groups) removed) where
      abbrev disk : DiskState
      disk = state mid.vault.disk

      abbrev old_root : Root
      old_root = root_of mid.manifest

      abbrev os : List Outcome
      os = r.outcomes

      here : ShowsOpen disk mid (counted s mid.next_group)
      here = r.written.wrote.shows.shown is_open

      abbrev low : s.next_group ≤ mid.next_group
      low = r.written.wrote.rises

      all_gone : (xs : List Group) → drop (length xs) xs ≡ []
      all_gone xs = drop_all xs (length xs) (omega arith)

      all_groups : old_groups ≡ r.groups
      all_groups = r.groups_are ∙ ap (λ (gs : List Group). r.groups ++ gs) (all_gone old_groups) ∙ append-nil r.groups

      all_files : old_root.groups ≡ r.files
      all_files =
          let many = as_many disk s.table.keys s.table.schema mid.next_group old_root.groups old_groups here.version in
          r.files_are ∙ ap (λ (fs : List FileGroup). r.files ++ fs) (drop_all old_root.groups (length old_groups) (omega (arith, many))) ∙ append-nil r.files

      left : AllZip (IsLeft pass) old_groups os
      left = subst (λ (gs : List Group). AllZip (IsLeft pass) gs os) (sym all_groups) r.left

      many : length old_root.groups ≡ length os
      many = ap (λ (fs : List FileGroup). length fs) all_files ∙ r.as_many

      high : mid.next_group ≤ s.next_group + length (rows (touched pass old_groups))
      high = let m = r.room in omega (arith, m)

      count_is : removed.count ≡ length (filter pass (rows old_groups))
      count_is =
          let none : length (filter pass (rows (drop (length old_groups) old_groups))) ≡ 0 = ap (λ (gs : List Group). length (filter pass (rows gs))) (all_gone old_groups) in
          let c = r.counted in
          omega (arith, c, none)

      -- out of memory before the commit
      pub poor_after : ActsFrom state old mid call (refused Memory) s
      poor_after = halted mid Memory (record { wrote = r.written.wrote; no_more = high; why = tt })

      abbrev cs : List Change
      cs = changes_for old_root.groups os

      changes_are : changes_view removed.changes.items ≡ cs
      changes_are = r.changes_are ∙ ap (λ (fs : List FileGroup). changes_for fs os) (sym all_files)

      come : HaveCome cs old_root.groups os
      come = have_come old_root.groups os here.means.described.distinct many

      abbrev files : List FileGroup
      files = files_then old_root.groups os

      abbrev groups : List Group
      groups = groups_then old_groups os

      files_are : replaced cs old_root.groups ≡ files
      files_are = replaced_are cs old_root.groups os come

      brought_is : brought cs ≡ files_come os
      brought_is = brought_are old_root.groups os many

      some_rows : AllByRecursion (λ (g : Group). 1 ≤ length g.rows) old_groups
      some_rows = all_so (IsGroupIn s.table.schema s.table.keys) (λ (g : Group). 1 ≤ length g.rows) (λ g i. i.some) old_groups stands.shows.valid.each

      removes : Removes s.had pass old_groups groups
      removes = record {
        renumbered = renumbered pass cs s.next_group;
        rests = rests_then pass cs s.next_group disk s.table.keys s.table.schema mid.next_group old_root.groups old_groups os some_rows here.version r.written.stored left come;
        fresh = fresh_then pass cs s.next_group disk s.table.keys s.table.schema mid.next_group s.had (not_had s.next_group (omega arith)) old_root.groups old_groups os here.version
            (all_so (λ (f : FileGroup). s.next_group ≤ f.number) (λ (f : FileGroup). s.had f.number ≡ false) (λ f l. not_had f.number l) (files_come os) r.written.above) left come;
      }

      covers : s.table.next ≤ s.next_group
      covers = (counters_cover s stands.reached).next

      -- ---- where no row satisfies

      pub nothing_removed : removed.count ≡ 0 → ActsFrom state old mid call (done 0) s
      nothing_removed none = record {
        after = counted s mid.next_group;
        happens = happens;
        survives = survives_spared state old s stands.shows is_open (IsOlder s.table.keys s.next_group) (root_is_older state old s stands.shows) (λ f below held. file_is_older state old s stands.shows f below) disk r.written.wrote.spares (counted s mid.next_group) refl;
        stands = record { reached = reached_on s stands.reached call (done 0) (counted s mid.next_group) happens; shows = r.written.wrote.shows };
        past = past_of (state old.vault.disk) disk r.written.wrote.spares.moments;
        doubt = λ is. absurd (cc);
        kept = λ keeps. kept_spared state old mid s (r.written.wrote.keeps ∙ keeps) r.written.wrote.spares;
      }
        where
          stay : (groups ≡ old_groups) × (length (rows (touched pass old_groups)) ≡ 0)
          stay = all_stay pass old_groups os left (sym count_is ∙ none)

          is_done : IsDone s call (done 0) (counted s mid.next_group)
          is_done = record {
            n = 0;
            table = s.table;
            counter = mid.next_group;
            leads = record {
              made = removed_rows pass;
              asked = refl;
              step = record {
                schema = refl;
                keys = refl;
                change = (subst (λ (gs : List Group). Removes s.had pass old_groups gs) stay.0 removes, sym none ∙ count_is);
                table = stands.shows.valid;
                never_falls = omega arith;
                same = λ of_groups same. refl;
              };
              rises = rises mid low high;
              covers = let c = covers in let l = low in omega (arith, c, l);
            };
            answers = refl;
            becomes = ap (λ (h : ℕ → Bool). record s { next_group = mid.next_group; had = h }) (sym (had_same s stands.reached));
          }

          happens : Happens s call (done 0) (counted s mid.next_group)
          happens = (fine, is_done)

      -- ---- where one does

      module _ (some : removed.count ≢ 0) (next : ℕ) (falls : s.table.next ≤ next) (above : AllByRecursion (λ (f : FileGroup). f.number < next) (brought (changes_view removed.changes.items)))
          (least : (next ≡ s.table.next) ⊎ IsNextOf next (brought (changes_view removed.changes.items))) where
        brought_files : brought (changes_view removed.changes.items) ≡ files_come os
        brought_files = ap brought changes_are ∙ brought_is

        below_next : AllByRecursion (λ (f : FileGroup). f.number < next) (files_come os)
        below_next = subst (λ (fs : List FileGroup). AllByRecursion (λ (f : FileGroup). f.number < next) fs) brought_files above

        covered : next ≤ mid.next_group
        covered = ⊎_elim
            (λ same. let a = covers in let b = low in omega (arith, same, a, b))
            (λ at. by (files_come os) (groups_come os) r.written.stored (subst (λ (fs : List FileGroup). IsNextOf next fs) brought_files at))
            least
          where
            by : (fs : List FileGroup) (gs : List Group) → AreStored disk s.table.keys s.table.schema mid.next_group fs gs → IsNextOf next fs → next ≤ mid.next_group
            by [] gs z at = absurd at
            by (f ∷ fs) [] z at = absurd z
            by (f ∷ fs) (g ∷ gs) z at = ⊎_elim (λ is. let under = z.0.below in omega (arith, is, under)) (λ later. by fs gs z.1 later) at

        abbrev pub then_table : Table
        then_table = record s.table { groups = groups; next = next }

        stored : AreStored disk s.table.keys s.table.schema mid.next_group files groups
        stored = stored_then disk s.table.keys s.table.schema mid.next_group old_root.groups old_groups os here.version r.written.stored many

        low_old : AllByRecursion (λ (f : FileGroup). f.number < s.next_group) old_root.groups
        low_old = numbers_back disk s.table.keys s.table.schema mid.next_group (λ n. n < s.next_group) old_root.groups old_groups here.version
            (each_number (λ n. n < s.next_group) old_groups (λ n e. had_below n (had_all s stands.reached n e)))

        files_distinct : AreDistinct (numbers_of files)
        files_distinct = subst (λ (fs : List FileGroup). AreDistinct (numbers_of fs)) files_are (replaced_are_distinct cs old_root.groups
            (subst (λ (fs : List FileGroup). AreDistinct (numbers_of (old_root.groups ++ fs))) (sym brought_is)
            (distinct_append s.next_group old_root.groups (files_come os) low_old r.written.above here.means.described.distinct r.written.distinct)))

        files_ordered : AreInTableOrder (keys_of files)
        files_ordered = subst (λ (fs : List FileGroup). AreInTableOrder (keys_of fs)) files_are
            (replaced_are_in_order cs old_root.groups (keyed_then disk s.table.keys s.table.schema mid.next_group pass cs old_root.groups old_groups os here.version r.written.stored left come) here.means.described.in_order)

        files_below : AllByRecursion (λ (f : FileGroup). f.number < next) files
        files_below = all_then (λ (f : FileGroup). f.number < next) old_root.groups os
            (all_so (λ (f : FileGroup). f.number < old_root.next) (λ (f : FileGroup). f.number < next) (λ f l. let n = here.next in omega (arith, l, n, falls)) old_root.groups here.means.described.below) below_next many

        is_table : IsTable then_table
        is_table =
            let v = stands.shows.valid in
            record {
              schema = v.schema;
              within = v.within;
              keys = v.keys;
              each = each_then s.table.schema s.table.keys pass old_groups os v.each left;
              in_order = subst (λ ks. AreInTableOrder ks) (same_keys disk s.table.keys s.table.schema mid.next_group files groups stored) files_ordered;
              distinct = subst (λ (ns : List ℕ). AreDistinct ns) (same_numbers disk s.table.keys s.table.schema mid.next_group files groups stored) files_distinct;
              below = numbers_too disk s.table.keys s.table.schema mid.next_group (λ n. n < next) files groups stored files_below;
            }

        described : IsDescription (with_version old_root files next)
        described =
            let d = here.means.described in
            let w = r.written.wrote.shows in
            let same : IsGroup s.table.keys (without_keys s.table.keys s.table.schema) ≡ IsGroup old_root.keys (stored_of old_root) =
            ap (λ ks. IsGroup ks (without_keys ks s.table.schema)) (sym w.keys) ∙ ap (λ fs. IsGroup old_root.keys (without_keys old_root.keys fs)) (sym w.schema) in
            record {
              schema = d.schema;
              within = d.within;
              keys = d.keys;
              stored = d.stored;
              fits = let a = w.counted in let b = covered in omega (arith, a, b);
              each = all_then (IsGroup old_root.keys (stored_of old_root)) old_root.groups os d.each (subst (λ P. AllByRecursion P (files_come os)) same r.written.described) many;
              in_order = files_ordered;
              distinct = files_distinct;
              below = files_below;
            }

        planned_here : IsPlanned disk mid (counted s mid.next_group) then_table s.jobs None (with_version old_root files next)
        planned_here = record {
          valid = is_table;
          keys = refl;
          schema_is = r.written.wrote.shows.schema;
          keys_are = r.written.wrote.shows.keys;
          next_is = refl;
          covers = covered;
          stored = stored;
          described = described;
          unrefused = ap (λ (b : Bool). first_of (unless_so b Page ∷ [])) (and_from _ _ (distinct_test (numbers_of files) files_distinct) (order_test (keys_of files) files_ordered));
          jobs_are = jobs_left_so disk s.table.keys s.table.schema s.next_group mid.next_group s.options.group_rows low s.had then_table
              (at_number (λ n. (s.had n ≡ true) ⊎ (s.next_group ≤ n)) groups
              (numbers_too disk s.table.keys s.table.schema mid.next_group (λ n. (s.had n ≡ true) ⊎ (s.next_group ≤ n)) files groups stored
              (all_then (λ (f : FileGroup). (s.had f.number ≡ true) ⊎ (s.next_group ≤ f.number)) old_root.groups os
              (numbers_back disk s.table.keys s.table.schema mid.next_group (λ n. (s.had n ≡ true) ⊎ (s.next_group ≤ n)) old_root.groups old_groups here.version
              (each_number (λ n. (s.had n ≡ true) ⊎ (s.next_group ≤ n)) old_groups (λ n e. inl (had_all s stands.reached n e))))
              (all_so (λ (f : FileGroup). s.next_group ≤ f.number) (λ (f : FileGroup). (s.had f.number ≡ true) ⊎ (s.next_group ≤ f.number)) (λ f l. inr l) (files_come os) r.written.above)
              many)))
              (state_of mid.snapshots) mid.jobs.items s.jobs r.written.wrote.jobs;
        }

        -- rows went
        fewer : groups ≡ old_groups → ⊥
        fewer same = some (count_is ∙ sym (ap (λ (gs : List Group). length (filter pass (rows gs))) same) ∙ none_pass pass old_groups os left)

        leads : Leads s call removed.count then_table mid.next_group
        leads = record {
          made = removed_rows pass;
          asked = refl;
          step = record {
            schema = refl;
            keys = refl;
            change = (removes, count_is);
            table = is_table;
            never_falls = falls;
            same = λ of_groups same. absurd (fewer same);
          };
          rises = rises mid low high;
          covers = covered;
        }

        asks : AsksCommit s call removed.count then_table mid.next_group
        asks = record {
          leads = leads;
          unrefused = fine;
          other = λ same. fewer (ap (λ (t : Table). t.groups) same);
          on = ap not is_open;
          memory = refl;
          disk = refl;
          does = λ new is. (fine, is);
          stays = λ more up. record { counter = more; rises = up; is = refl };
        }

        module _ (gs : List FileGroup) (are : gs ≡ replaced (changes_view removed.changes.items) old_root.groups) where
          same_files : files ≡ gs
          same_files = sym files_are ∙ ap (λ (ds : List Change). replaced ds old_root.groups) (sym changes_are) ∙ sym are

          pub planned : IsPlanned disk mid (counted s mid.next_group) then_table s.jobs None (with_version old_root gs next)
          planned = subst (λ (hs : List FileGroup). IsPlanned disk mid (counted s mid.next_group) then_table s.jobs None (with_version old_root hs next)) same_files planned_here

          pub too_heavy : IsRootTooHeavy (with_version old_root gs next) → IsOver s call
          too_heavy heavy = over_root removed.count then_table mid.next_group leads asks.other
              (too_heavy_is_too_much disk mid.next_group then_table (with_version old_root files next) r.written.wrote.shows.schema r.written.wrote.shows.keys stored described
              (subst (λ (hs : List FileGroup). IsRootTooHeavy (with_version old_root hs next)) (sym same_files) heavy))

          pub done_so : (new : Core D) → Turns {T = Unit {0}} state mid new (counted s mid.next_group) then_table s.jobs (Ok tt) → ActsFrom state old new call (done removed.count) s
          done_so new turns = commits_act state old mid new s call removed.count then_table mid.next_group (Ok tt) stands is_open asks r.written.wrote tt turns

          pub refused_so : (new : Core D) (e : Refusal) → HasCause IsCommitRefusal e → (e ≡ Limit → IsOver s call) → Turns {T = Unit {0}} state mid new (counted s mid.next_group) then_table s.jobs (Err e) → ActsFrom state old new call (refused e) s
          refused_so new e cause limit turns = commits_act state old mid new s call removed.count then_table mid.next_group (Err e) stands is_open asks r.written.wrote (has_reason (Unit {0}) s call e cause fine limit) turns
