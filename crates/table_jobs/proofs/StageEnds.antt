-- Rows that are staged: the writing begins, and the job has them.
use Rattle.std.proofs.Common.{◌≡◌, ◌≤◌, ◌+◌, ◌*◌, ℕ, Bool, true, false, not, ◌&&◌, List, [], ◌∷◌, ◌++◌, map, flat_map, length, take, drop, Option, Some, None, refl, sym, ◌∙◌, ap, subst, arith, append_assoc, add-mul as both_times}
use Rattle.std.specs.Prelude.{Vec, ◌==◌, IsTrue}
use Rattle.std.specs.List.{AllByRecursion, AllZip, list_all}
use Rattle.std.specs.declared.alloc.Global.{Global}
use Rattle.lists.proofs.Lists.{all_append, all_weaker as all_so}
use Rattle.bits.specs.declared.refusal.Refusal.{Refusal}
use Rattle.bits.specs.declared.refusal.Refusal.TheVariants.{Limit, Device, Memory}
use Rattle.schema.specs.Cutting.{is_among}
use Rattle.schema.specs.Fits.{fits_each}
use Rattle.schema.specs.Keys.{KeyColumn, AreDistinct, key_of_row, without_keys}
use Rattle.disk.specs.State.{State as DiskState}
use Rattle.vault.specs.Calls.{HasFailed}
use Rattle.partition.specs.Folders.{CanPartition}
use Rattle.partition.specs.Splitting.{KeyRows, key_rows_view}
use Rattle.manifest.specs.Groups.{Group as FileGroup, handles_view, numbers_of}
use Rattle.manifest.specs.Records.{IsGroup}
use Rattle.snapshots.specs.State.{Pins, file_of, is_among as is_file_among, open_at as pinned_at}
use Rattle.snapshots.specs.Views.{state_of}
use Rattle.table.specs.Table.{Row, Key, Group, rows, IsRowIn}
use Rattle.table.specs.InOrder.{in_order}
use Rattle.table.specs.State.{State, appending, changed_at}
use Rattle.table.specs.Checks.{fault}
use Rattle.table.specs.Calls.{stage, accepted, refused}
use Rattle.table.specs.Leading.{Rises}
use Rattle.table.specs.Limits.{IsNewGroup, group as over_group}
use Rattle.table.specs.Refusing.{Happens, Stays, is_failure, no_memory, over as refused_over, failed as refused_failed}
use Rattle.table.proofs.Counters.{counters_cover}
use Rattle.table_state.specs.declared.standing.Core.{Core}
use Rattle.table_state.specs.declared.jobs.OpenJob.{OpenJob}
use Rattle.table_state.specs.declared.jobs.Work.TheVariants.{Append}
use Rattle.table_state.specs.declared.jobs.Appending.{Appending}
use Rattle.table_state.specs.Paths.{IsOlder}
use Rattle.table_state.specs.Lookups.{job_at, jobs_with}
use Rattle.table_state.specs.Stands.{AreStored, AreWaiting, AreWritten, ShowsAppend, ShowsJob, ShowsOpen, Stands, written_in, written_of, job_numbers}
use Rattle.table_commits.specs.Writing.{IsHeldFor, counted}
use Rattle.table_commits.specs.Acting.{WroteTo}
use Rattle.table_state.specs.Buffers.{keys_in, IsRising}
use Rattle.table_commits.specs.Filling.{HasWritten, HasSize, Filled, IsStopped, IsWhole, WhyStopped, AreBuffers, AreFine, IsFew, rows_waiting}
use Rattle.table_jobs.specs.Completing.{completed_buffers, with_work}
use Rattle.table_state.specs.Promises.{ActsFrom}
use Rattle.table_commits.proofs.CommitsFromParts.{refusals_act}
use Rattle.table_commits.proofs.DistinctNumbers.{AllBelow, distinct_joined, none_joined}
use Rattle.table_reads.proofs.SomethingOpens.{job_numbers_are}
use Rattle.table_commits.proofs.AppendCommits.{all_fresh, no_number, stored_append, numbers_too}
use Rattle.table_commits.proofs.StateCarriedOver.{root_is_older, file_is_older, past_of, survives_spared}
use Rattle.table_commits.proofs.OlderFiles.{kept_spared}
use Rattle.table_commits.proofs.JobsChanged.{job_changed}
use Rattle.table_reads.proofs.SomethingEnds.{found_open}
use Rattle.table_commits.proofs.RowsFillGroups.{some_rows_fit}
use Rattle.table_commits.proofs.GroupsByKey.{IsKeyed, full_part}
use Rattle.table_commits.proofs.NumbersOfJobs.{WritesOn, numbers_joined, parted_changed, files_below, written_below}
use Rattle.table_jobs.proofs.WorkReplaced.{put_changes}
use Rattle.table_commits.proofs.OneCallMore.{reached_on}
use Rattle.table_jobs.proofs.WaitingGoesOn.{whole_of, begin_buffers, begin_few, begin_keys, begin_rows, waits_back, rows_back}
use Rattle.table_commits.proofs.KeyOrder.{part_of, same_behind, same_before, sorted_part, part_append}
use Rattle.table_jobs.proofs.StageGoesOn.{Held, held_in, sized, all_sized, keyed_stored, past_all, own_distinct}
use Rattle.table_commits.proofs.StoredStays.{Any, all_any, stored_on}
use Rattle.table_commits.proofs.WaitingRows.{rows_append, same_key_lists}
use Rattle.table_commits.proofs.FilesSoFar.{wrote_nothing}

-- rows that wait whole fit the table, and their keys can partition
all_fine : (s : State) (ws vs : List KeyRows) → AreBuffers s.table.schema s.table.keys ws vs → AreFine s (rows_waiting vs)
all_fine s [] [] z = tt
all_fine s (w ∷ ws) (v ∷ vs) z = all_append (λ (row : Row). IsTrue (fits_each s.table.schema row) × CanPartition s.table.keys (key_of_row s.table.keys row)) v.rows (rows_waiting vs) (each v.rows z.0.rows_in) (all_fine s ws vs z.1)
  where
    each : (rs : List Row) → AllByRecursion (IsRowIn s.table.schema s.table.keys v.key) rs → AreFine s rs
    each [] a = tt
    each (r ∷ rs) a = ((a.0.fits, subst (λ (k : Key). CanPartition s.table.keys k) (sym a.0.keyed) z.0.can), each rs a.1)
all_fine s [] (v ∷ vs) z = absurd z
all_fine s (w ∷ ws) [] z = absurd z

module _ {D : Type 0} (state : D → DiskState) (old : Core D) (s : State) (stands : Stands state old s) (is_open : s.closed ≡ false) (n : ℕ) (x : OpenJob) (a : Appending)
    (there : job_at n old.jobs.items ≡ Some x) (is : x.work ≡ Append a) where
  abbrev disk : DiskState
  disk = state old.vault.disk

  abbrev keys : List KeyColumn
  keys = s.table.keys

  abbrev size : ℕ
  size = s.options.group_rows

  abbrev row_key : Row → Key
  row_key = key_of_row keys

  pub held : Held state s n old s.next_group a
  held = held_in state s n old s.next_group (stands.shows.shown is_open).jobs x a there is

  abbrev pub staged : List Row
  staged = held.staged

  -- the groups that it wrote, and the rows that wait
  abbrev pub before : List Group
  before = held.shows.groups

  abbrev waiting : List KeyRows
  waiting = map key_rows_view a.waiting.items

  abbrev pub wait : List Row
  wait = flat_map (λ (rs : List Row). rs) held.shows.waiting

  pub some_size : 1 ≤ size
  some_size = subst (λ o. 1 ≤ o.group_rows) stands.shows.options (some_rows_fit old.options stands.shows.in_range)

  -- ---- the writing begins

  pub starts : HasWritten state old old s (Some n) [] []
  starts = record {
    wrote = subst (λ (k : ℕ). WroteTo state old old s k) (sym stands.shows.next_group) (wrote_nothing state old s stands.shows is_open);
    no_less = omega arith;
    job_open = found_open n (state_of old.snapshots).jobs held.pins held.pinned;
    stored = tt;
    held = tt;
    described = tt;
    above = tt;
    distinct = tt;
  }

  -- the rows that wait, whole, under their keys
  abbrev pub whole : List KeyRows
  whole = whole_of waiting held.shows.waiting

  pub whole_are : AreBuffers s.table.schema keys (completed_buffers (without_keys keys s.table.schema) waiting) whole
  whole_are = begin_buffers keys s.table.schema disk s.next_group size s.had waiting held.shows.waiting held.shows.are_waiting

  pub whole_few : AllByRecursion (IsFew size) whole
  whole_few = begin_few keys s.table.schema disk s.next_group size s.had waiting held.shows.waiting held.shows.are_waiting

  pub whole_rising : IsRising (keys_in whole)
  whole_rising = subst (λ (ks : List Key). IsRising ks) (sym (begin_keys keys s.table.schema disk s.next_group size s.had waiting held.shows.waiting held.shows.are_waiting)) held.shows.rising

  pub whole_rows : rows_waiting whole ≡ wait
  whole_rows = begin_rows keys s.table.schema disk s.next_group size s.had waiting held.shows.waiting held.shows.are_waiting

  pub whole_fine : AreFine s (rows_waiting whole)
  whole_fine = all_fine s (completed_buffers (without_keys keys s.table.schema) waiting) whole whole_are

  -- ---- what was staged and what is given, by key

  pub all_then : (given : List Row) → in_order row_key (rows before ++ (wait ++ given)) ≡ in_order row_key (staged ++ given)
  all_then given = ap (in_order row_key) (sym (append_assoc (rows before) wait given)) ∙ same_before row_key (rows before ++ wait) staged given held.shows.all

  are_keyed : AllByRecursion (IsKeyed keys) before
  are_keyed = keyed_stored disk keys s.table.schema s.next_group size some_size (handles_view a.written.items) before held.shows.are_written.stored (sized disk keys s.table.schema s.next_group size before held.shows.are_written.full)

  -- a new group of what waits and what is given is one of all that is staged then
  pub moved : (given part : List Row) → IsNewGroup s (wait ++ given) part → IsNewGroup s (staged ++ given) part
  moved given part p =
      let k = p.0 in
      let i = p.1.0 in
      let m = full_part keys size k before are_keyed (sized disk keys s.table.schema s.next_group size before held.shows.are_written.full) in
      let olds = part_of row_key k (rows before) in
      let news = part_of row_key k (wait ++ given) in
      let all : part_of row_key k (staged ++ given) ≡ olds ++ news
      = sym (sorted_part row_key k (staged ++ given)) ∙ ap (part_of row_key k) (sym (all_then given)) ∙ sorted_part row_key k (rows before ++ (wait ++ given)) ∙ part_append row_key k (rows before) (wait ++ given) in
      let place : (m.0 + i) * size ≡ length olds + i * size = both_times m.0 i size ∙ ap (λ (j : ℕ). j + i * size) (sym m.1) in
      let past : drop ((m.0 + i) * size) (part_of row_key k (staged ++ given)) ≡ drop (i * size) news
      = ap (λ (xs : List Row). drop ((m.0 + i) * size) xs) all ∙ ap (λ (j : ℕ). drop j (olds ++ news)) place ∙ past_all olds news (i * size) in
      (k, (m.0 + i, p.1.1 ∙ ap (λ (xs : List Row). take size xs) (sym past), p.1.2))

  module _ (given : List Row) (fine : fault s (stage n given) ≡ None) where
    rises : (mid : Core D) → s.next_group ≤ mid.next_group → mid.next_group ≤ s.next_group + length given → Rises s (stage n given) mid.next_group
    rises mid low high = record { most = length given; work = refl; no_less = low; no_more = high }

    -- ---- the rows are not all taken

    pub stopped : (mid : Core D) (e : Refusal) → IsStopped state old mid s (IsWhole s) (wait ++ given) e → mid.next_group ≤ s.next_group + length given → ActsFrom state old mid (stage n given) (refused e) s
    stopped mid e h high = refusals_act state old mid s (stage n given) mid.next_group e stands is_open h.wrote (why e h.why)
      where
        same : Stays s (stage n given) (counted s mid.next_group)
        same = record { counter = mid.next_group; rises = rises mid h.wrote.rises high; is = refl }

        why : (f : Refusal) → WhyStopped state old mid s (IsWhole s) (wait ++ given) f → Happens s (stage n given) (refused f) (counted s mid.next_group)
        why Device w = refused_failed refl (ap not is_open) refl same
        why Limit w = refused_over refl fine (over_group w.0 (staged, held.is_open, moved given w.0 w.2, w.1) w.3) same
        why Memory w = no_memory refl (ap not is_open) refl same
        why f w = absurd w

    pub stopped_cause : (mid : Core D) (e : Refusal) → IsStopped state old mid s (IsWhole s) (wait ++ given) e → is_failure (refused e) ≡ true → HasFailed disk (state mid.vault.disk)
    stopped_cause mid e h is_one = by e h.why is_one
      where
        by : (f : Refusal) → WhyStopped state old mid s (IsWhole s) (wait ++ given) f → is_failure (refused f) ≡ true → HasFailed disk (state mid.vault.disk)
        by Device w i = w
        by Limit w i = absurd (cc)
        by Memory w i = absurd (cc)
        by f w i = absurd w

    -- ---- they are

    module _ (mid : Core D) (files : List FileGroup) (ws : List KeyRows) (f : Filled state old mid s (Some n) files [] ws (wait ++ given)) (high : mid.next_group ≤ s.next_group + length given) (jobs_same : mid.jobs ≡ old.jobs) where
      -- out of memory
      pub poor_after : ActsFrom state old mid (stage n given) (refused Memory) s
      poor_after = stopped mid Memory (record { wrote = f.written.wrote; no_more = (let r = f.room in omega (arith, r)); why = tt }) high

      abbrev now : DiskState
      now = state mid.vault.disk

      abbrev count : ℕ
      count = mid.next_group

      abbrev news : List Group
      news = f.fulls ++ []

      wrote : WroteTo state old mid s count
      wrote = f.written.wrote

      here : ShowsOpen now mid (counted s count)
      here = wrote.shows.shown is_open

      there_too : job_at n mid.jobs.items ≡ Some x
      there_too = ap (λ (js : Vec OpenJob Global). job_at n js.items) jobs_same ∙ there

      pub held_then : Held state s n mid s.next_group a
      held_then = held_in state s n mid s.next_group wrote.jobs x a there_too is

      stored_then : AreStored now keys s.table.schema count (handles_view a.written.items) before
      stored_then = stored_on keys s.next_group count wrote.rises Any (IsOlder keys s.next_group) (λ g low h. file_is_older state old s stands.shows g low) disk now wrote.spares s.table.schema (handles_view a.written.items) before
          (all_any (handles_view a.written.items)) held.shows.are_written.stored

      one_pins : (p : Option Pins) (b c : Pins) → p ≡ Some b → p ≡ Some c → b ≡ c
      one_pins p b c e g = cc

      held_for : (fs : List FileGroup) → AllByRecursion (λ (g : FileGroup). IsHeldFor (Some n) (state_of mid.snapshots) g) fs → AllByRecursion (λ (g : FileGroup). is_file_among held_then.pins.files (file_of g) ≡ true) fs
      held_for [] h = tt
      held_for (g ∷ gs) h =
          let same : h.0.0 ≡ held_then.pins = one_pins (pinned_at n (state_of mid.snapshots).jobs) h.0.0 held_then.pins h.0.1 held_then.pinned in
          (ap (λ (b : Pins). is_file_among b.files (file_of g)) (sym same) ∙ h.0.2, held_for gs h.1)

      not_had : (m : ℕ) → s.next_group ≤ m → s.had m ≡ false
      not_had m low = by (s.had m) refl
        where
          by : (b : Bool) → s.had m ≡ b → s.had m ≡ false
          by false e = e
          by true e = let l = (counters_cover s stands.reached).had m e in absurd (omega (arith, l, low))

      new_fresh : list_all (λ (g : Group). not (s.had g.number)) news ≡ true
      new_fresh = all_fresh s.had news (all_so (λ (g : Group). s.next_group ≤ g.number) (λ (g : Group). s.had g.number ≡ false) (λ g l. not_had g.number l) news
          (numbers_too now keys s.table.schema count (λ m. s.next_group ≤ m) files news f.written.stored f.written.above))

      all_joined : (p : Group → Bool) (gs hs : List Group) → list_all p gs ≡ true → list_all p hs ≡ true → list_all p (gs ++ hs) ≡ true
      all_joined p [] hs e g = g
      all_joined p (x ∷ gs) hs e g = joined (p x) (list_all p gs) (list_all p (gs ++ hs)) e (λ h. all_joined p gs hs h g)
        where
          joined : (b c d : Bool) → (b && c) ≡ true → (c ≡ true → d ≡ true) → (b && d) ≡ true
          joined true c d e r = r e
          joined false c d e r = absurd (cc)

      pub all_written : AreWritten now keys s.table.schema count size s.had held_then.pins (handles_view a.written.items ++ files) (before ++ news)
      all_written = record {
        stored = stored_append now keys s.table.schema count (handles_view a.written.items) files before news stored_then f.written.stored;
        described = all_append (IsGroup keys (without_keys keys s.table.schema)) (handles_view a.written.items) files held.shows.are_written.described f.written.described;
        held = all_append (λ (g : FileGroup). is_file_among held_then.pins.files (file_of g) ≡ true) (handles_view a.written.items) files held_then.shows.are_written.held (held_for files f.written.held);
        full = all_joined (λ (g : Group). length g.rows == size) before news held.shows.are_written.full (all_sized now keys s.table.schema count size news (all_append (HasSize size) f.fulls [] f.full tt));
        fresh = all_joined (λ (g : Group). not (s.had g.number)) before news held.shows.are_written.fresh new_fresh;
      }

      pub all_staged : in_order row_key (rows (before ++ news) ++ flat_map (λ (rs : List Row). rs) (map (λ (v : KeyRows). v.rows) f.whole)) ≡ in_order row_key (staged ++ given)
      all_staged =
          ap (λ (xs : List Row). in_order row_key (xs ++ flat_map (λ (rs : List Row). rs) (map (λ (v : KeyRows). v.rows) f.whole))) (rows_append before news)
          ∙ ap (in_order row_key) (append_assoc (rows before) (rows news) (flat_map (λ (rs : List Row). rs) (map (λ (v : KeyRows). v.rows) f.whole)))
          ∙ ap (λ (xs : List Row). in_order row_key (rows before ++ (rows news ++ xs))) (rows_back f.whole)
          ∙ same_behind row_key (rows before) (rows news ++ rows_waiting f.whole) (wait ++ given) f.all ∙ all_then given

      module _ (b : Appending) (written : handles_view b.written.items ≡ handles_view a.written.items ++ files) (waits : map key_rows_view b.waiting.items ≡ ws) where
        pub shows_then : ShowsAppend now keys s.table.schema count size s.had held_then.pins b (staged ++ given)
        shows_then = record {
          groups = before ++ news;
          are_written = subst (λ (fs : List FileGroup). AreWritten now keys s.table.schema count size s.had held_then.pins fs (before ++ news)) (sym written) all_written;
          waiting = map (λ (v : KeyRows). v.rows) f.whole;
          are_waiting = subst (λ (us : List KeyRows). AllZip (AreWaiting now keys s.table.schema count size s.had) us (map (λ (v : KeyRows). v.rows) f.whole)) (sym waits)
              (waits_back keys s.table.schema now count size s.had stands.shows.valid.keys ws f.whole f.waits f.few);
          rising = subst (λ (us : List KeyRows). IsRising (keys_in us)) (sym waits) (subst (λ (ks : List Key). IsRising ks) (same_key_lists s.table.schema keys ws f.whole f.waits) f.rising);
          free = held_then.shows.free;
          all = all_staged;
        }

        abbrev y : OpenJob
        y = record { number = n; work = Append b }

        shown : ShowsJob now keys s.table.schema count size s.had (state_of mid.snapshots).jobs y (n, appending (staged ++ given))
        shown = record { number = refl; pins = held_then.pins; pinned = held_then.pinned; work = shows_then }

        apart_jobs : AreDistinct (job_numbers mid.jobs.items)
        apart_jobs = subst AreDistinct (sym (job_numbers_are state mid (counted s count) wrote.shows is_open)) here.numbered_jobs.distinct

        olds_below : AllBelow s.next_group (numbers_of (handles_view a.written.items))
        olds_below = files_below disk keys s.table.schema s.next_group size s.had (handles_view a.written.items) before held.shows.are_written.stored

        writes_on : WritesOn s.next_group x.work (Append b)
        writes_on =
            let olds = numbers_of (handles_view a.written.items) in
            let mine : AreDistinct olds = subst (λ w. AreDistinct (numbers_of (written_of w))) is (own_distinct n mid.jobs.items x there_too here.parted) in
            let numbers_are : numbers_of (written_of (Append b)) ≡ olds ++ numbers_of files = ap numbers_of written ∙ numbers_joined (handles_view a.written.items) files in
            record {
              distinct = subst AreDistinct (sym numbers_are) (distinct_joined olds (numbers_of files) mine f.written.distinct (λ m h. no_number files m s.next_group f.written.above (olds_below m h)));
              within = λ m low none.
                  let none_old : is_among olds m ≡ false = subst (λ w. is_among (numbers_of (written_of w)) m ≡ false) is none in
                  subst (λ (ns : List ℕ). is_among ns m ≡ false) (sym numbers_are) (none_joined olds (numbers_of files) m none_old (no_number files m s.next_group f.written.above low));
            }

        apart_then : AreDistinct (numbers_of (written_in (jobs_with y mid.jobs.items)))
        apart_then = parted_changed s.next_group y x writes_on mid.jobs.items there_too apart_jobs
            (written_below now keys s.table.schema s.next_group size s.had (state_of mid.snapshots).jobs mid.jobs.items s.jobs wrote.jobs) here.parted

        abbrev after : State
        after = record (counted s count) { jobs = changed_at n (appending (staged ++ given)) s.jobs }

        happens : Happens s (stage n given) accepted after
        happens = (fine, (refl, record { staged = staged; is_open = held.is_open; becomes = record { counter = count; rises = rises mid wrote.rises high; is = refl } }))

        pub done_so : (jobs : Vec OpenJob Global) → jobs.items ≡ with_work n (Append b) mid.jobs.items → ActsFrom state old (record mid { jobs = jobs }) (stage n given) accepted s
        done_so jobs are = record {
          after = after;
          happens = happens;
          survives = survives_spared state old s stands.shows is_open (IsOlder keys s.next_group) (root_is_older state old s stands.shows) (λ g low h. file_is_older state old s stands.shows g low) now wrote.spares after refl;
          stands = record {
            reached = reached_on s stands.reached (stage n given) accepted after happens;
            shows = job_changed state mid (counted s count) wrote.shows is_open y (appending (staged ++ given)) shown jobs (are ∙ put_changes n (Append b) mid.jobs.items apart_jobs) apart_then;
          };
          past = past_of disk now wrote.spares.moments;
          doubt = λ is. absurd (cc);
          kept = λ keeps. kept_spared state old (record mid { jobs = jobs }) s (wrote.keeps ∙ keeps) wrote.spares;
        }
