-- The commit of an append on which something is staged: its groups, once the rest is written.
use Rattle.std.proofs.Common.{◌≡◌, ◌≢◌, ◌≤◌, ◌<◌, ◌⊎◌, ℕ, Bool, true, false, not, ◌||◌, List, [], ◌∷◌, ◌++◌, length, Some, refl, sym, ◌∙◌, ap, subst, arith, inl, inr, ⊎_elim, append_assoc}
use Rattle.std.specs.Prelude.{IsTrue, Vec}
use Rattle.std.specs.List.{AllByRecursion, AllZip, list_all}
use Rattle.std.specs.declared.alloc.Global.{Global}
use Rattle.std.proofs.lemmas.List.{length-append}
use Rattle.std.proofs.lemmas.Bool.{and_parts}
use Rattle.lists.proofs.Lists.{all_append, all_weaker as all_so}
use Rattle.schema.specs.Fits.{RowsFit}
use Rattle.schema.specs.Cutting.{is_among}
use Rattle.schema.specs.Keys.{KeyColumn, AreKeys, AreDistinct, AreRowsOf, key_of_row, without_keys}
use Rattle.disk.specs.State.{State as DiskState}
use Rattle.partition.specs.Folders.{CanPartition}
use Rattle.manifest.specs.Groups.{Group as FileGroup, handles_view, numbers_of}
use Rattle.manifest.specs.Records.{IsGroup}
use Rattle.manifest.specs.Laws.{RowsOfPartsFit}
use Rattle.planning.specs.Told.{IsNextOf}
use Rattle.planning.proofs.Kept.{placed_are_distinct}
use Rattle.snapshots.specs.State.{ended_at as ended_in}
use Rattle.snapshots.specs.Views.{state_of}
use Rattle.table.specs.Table.{Row, Key, Group, Table, IsRowIn, IsGroupIn, numbers, rows}
use Rattle.table.specs.InOrder.{in_order}
use Rattle.table.specs.Commits.{are_full}
use Rattle.table.specs.State.{State, ended_at, had_with}
use Rattle.table.specs.Calls.{commit}
use Rattle.table.specs.Leading.{Rises, job_rows}
use Rattle.table.proofs.Counters.{counters_cover}
use Rattle.table_state.specs.declared.standing.Core.{Core}
use Rattle.table_state.specs.declared.jobs.OpenJob.{OpenJob}
use Rattle.table_state.specs.declared.jobs.Work.TheVariants.{Append}
use Rattle.table_state.specs.declared.jobs.Appending.{Appending}
use Rattle.table_state.specs.Paths.{IsOlder}
use Rattle.table_state.specs.Lookups.{job_at, jobs_left}
use Rattle.table_state.specs.Stands.{IsStored, AreStored, ShowsJob, ShowsOpen, Stands, written_of}
use Rattle.table_commits.specs.Writing.{counted}
use Rattle.table_commits.specs.Committing.{ShowsJobsLeft}
use Rattle.table_commits.specs.Acting.{WroteTo}
use Rattle.table_commits.specs.Bringing.{grown}
use Rattle.table_jobs.specs.Staging.{IsJobBrought}
use Rattle.table_commits.specs.Filling.{HasSize, IsFilled}
use Rattle.table_commits.proofs.DistinctNumbers.{AllBelow, Shares, among_first, among_later, distinct_joined}
use Rattle.table_commits.proofs.AppendCommits.{all_order, length_order, no_number, at_number, each_number, stored_append, stored_order, numbers_too, numbers_back}
use Rattle.table_jobs.proofs.JobsBesideCommits.{own_apart, jobs_then}
use Rattle.table_reads.proofs.AfterEvents.{jobs_left_shown}
use Rattle.table_commits.proofs.GroupsByKey.{rows_in_order, groups_keyed, all_full}
use Rattle.table_commits.proofs.NumbersHad.{had_all}
use Rattle.table_commits.proofs.NumbersOfJobs.{numbers_written, numbers_joined, files_below, written_below}
use Rattle.table_commits.proofs.KeyOrder.{same_behind}
use Rattle.table_commits.proofs.StateCarriedOver.{file_is_older}
use Rattle.table_commits.proofs.SparedDisks.{spares_here}
use Rattle.table_jobs.proofs.StageEnds.{held, before, wait}
use Rattle.table_jobs.proofs.StageGoesOn.{Held, held_in, sized, own_distinct}
use Rattle.table_commits.proofs.StoredStays.{Any, all_any, stored_on, jobs_on, hold_same}
use Rattle.table_commits.proofs.WaitingRows.{rows_append}

-- ---- groups that are stored are groups of the table

keyed_rows : (schema : _) (keys : List KeyColumn) (key k : Key) → key ≡ k → (ws rs : List Row) → RowsFit schema rs → AreRowsOf keys key ws rs → AllByRecursion (IsRowIn schema keys k) rs
keyed_rows schema keys key k same [] [] fit are = tt
keyed_rows schema keys key k same (w ∷ ws) (r ∷ rs) fit are = (record { fits = fit.0; keyed = are.0.keyed ∙ same }, keyed_rows schema keys key k same ws rs fit.1 are.1)
keyed_rows schema keys key k same [] (r ∷ rs) fit are = absurd are
keyed_rows schema keys key k same (w ∷ ws) [] fit are = absurd are

module _ (fit : RowsOfPartsFit) (disk : DiskState) (keys : List KeyColumn) (schema : _) (are_keys : AreKeys keys schema) (count size : ℕ) (some : 1 ≤ size) where
  group_in : (f : FileGroup) (g : Group) → IsStored disk keys schema count f g → IsGroup keys (without_keys keys schema) f → HasSize size g → IsGroupIn schema keys g
  group_in f g z is long = record {
    some = omega (arith, long, some);
    keyed = subst (λ (k : Key). CanPartition keys k) (sym z.key) z.can;
    rows_in = keyed_rows schema keys f.key g.key (sym z.key) _ g.rows (fit keys schema f z.bytes g.rows are_keys is.file z.can.values z.means) z.means.keyed;
  }

  pub groups_in : (fs : List FileGroup) (gs : List Group) → AreStored disk keys schema count fs gs → AllByRecursion (IsGroup keys (without_keys keys schema)) fs → AllByRecursion (HasSize size) gs → AllByRecursion (IsGroupIn schema keys) gs
  groups_in [] [] z is long = tt
  groups_in (f ∷ fs) (g ∷ gs) z is long = (group_in f g z.0 is.0 long.0, groups_in fs gs z.1 is.1 long.1)
  groups_in [] (g ∷ gs) z is long = absurd z
  groups_in (f ∷ fs) [] z is long = absurd z

module _ {D : Type 0} (state : D → DiskState) (old : Core D) (s : State) (stands : Stands state old s) (is_open : s.closed ≡ false) (n : ℕ) (x : OpenJob) (a : Appending)
    (there : job_at n old.jobs.items ≡ Some x) (is : x.work ≡ Append a) where
  abbrev keys : List KeyColumn
  keys = s.table.keys

  abbrev size : ℕ
  size = s.options.group_rows

  abbrev row_key : Row → Key
  row_key = key_of_row keys

  abbrev here_held : Held state s n old s.next_group a
  here_held = held state old s stands is_open n x a there is

  abbrev olds : List Group
  olds = before state old s stands is_open n x a there is

  abbrev waits : List Row
  waits = wait state old s stands is_open n x a there is

  abbrev old_files : List FileGroup
  old_files = handles_view a.written.items

  -- ---- how many rows

  pub long_wait : length waits ≤ length here_held.staged
  long_wait =
      let a = length_order row_key (rows olds ++ waits) in
      let b = length_order row_key here_held.staged in
      let c = ap (λ (rs : List Row). length rs) here_held.shows.all in
      let d = length-append (rows olds) waits in
      omega (arith, a, b, c, d)

  module _ (fit : RowsOfPartsFit) (some : 1 ≤ size) (mid : Core D) (files : List FileGroup) (f : IsFilled state old mid s (Some n) files waits) (jobs_same : mid.jobs ≡ old.jobs) where
    abbrev now : DiskState
    now = state mid.vault.disk

    abbrev count : ℕ
    count = mid.next_group

    wrote : WroteTo state old mid s count
    wrote = f.written.wrote

    here : ShowsOpen now mid (counted s count)
    here = wrote.shows.shown is_open

    there_too : job_at n mid.jobs.items ≡ Some x
    there_too = ap (λ (js : Vec OpenJob Global). job_at n js.items) jobs_same ∙ there

    held_then : Held state s n mid s.next_group a
    held_then = held_in state s n mid s.next_group wrote.jobs x a there_too is

    stored_then : AreStored now keys s.table.schema count old_files olds
    stored_then = stored_on keys s.next_group count wrote.rises Any (IsOlder keys s.next_group) (λ g low h. file_is_older state old s stands.shows g low) (state old.vault.disk) now wrote.spares s.table.schema old_files olds
        (all_any old_files) here_held.shows.are_written.stored

    old_sized : AllByRecursion (HasSize size) olds
    old_sized = sized now keys s.table.schema count size olds here_held.shows.are_written.full

    old_in : AllByRecursion (IsGroupIn s.table.schema keys) olds
    old_in = groups_in fit now keys s.table.schema stands.shows.valid.keys count size some old_files olds stored_then here_held.shows.are_written.described old_sized

    abbrev both : List Group
    both = olds ++ f.groups

    each_both : AllByRecursion (IsGroupIn s.table.schema keys) both
    each_both = all_append (IsGroupIn s.table.schema keys) olds f.groups old_in f.each

    abbrev pub come : List FileGroup
    come = in_order (λ (g : FileGroup). g.key) (old_files ++ files)

    abbrev pub added : List Group
    added = in_order (λ (g : Group). g.key) both

    all_rows : in_order row_key (rows both) ≡ in_order row_key here_held.staged
    all_rows = ap (in_order row_key) (rows_append olds f.groups) ∙ same_behind row_key (rows olds) (rows f.groups) waits f.hold ∙ here_held.shows.all

    added_full : IsTrue (are_full size added)
    added_full = subst (λ (gs : List Group). IsTrue (are_full size (in_order (λ (g : Group). g.key) gs))) (append_assoc olds f.fulls f.rests ∙ ap (λ (gs : List Group). olds ++ gs) (sym f.parts))
        (all_full size some (olds ++ f.fulls) f.rests (all_append (HasSize size) olds f.fulls old_sized f.sized) f.rising f.up_to)

    hold : rows added ≡ in_order row_key here_held.staged
    hold = rows_in_order keys both (groups_keyed keys s.table.schema both each_both) ∙ all_rows

    -- ---- numbers

    not_had : (m : ℕ) → s.next_group ≤ m → s.had m ≡ false
    not_had m low = by (s.had m) refl
      where
        by : (b : Bool) → s.had m ≡ b → s.had m ≡ false
        by false e = e
        by true e = let l = (counters_cover s stands.reached).had m e in absurd (omega (arith, l, low))

    not_false : (b : Bool) → not b ≡ true → b ≡ false
    not_false true e = absurd (cc)
    not_false false e = refl

    olds_fresh : (gs : List Group) → list_all (λ (g : Group). not (s.had g.number)) gs ≡ true → AllByRecursion (λ (g : Group). s.had g.number ≡ false) gs
    olds_fresh [] e = tt
    olds_fresh (g ∷ gs) e = let p = and_parts (not (s.had g.number)) (list_all (λ (h : Group). not (s.had h.number)) gs) e in (not_false (s.had g.number) p.0, olds_fresh gs p.1)

    fresh : AllByRecursion (λ (g : FileGroup). s.had g.number ≡ false) (old_files ++ files)
    fresh = all_append (λ (g : FileGroup). s.had g.number ≡ false) old_files files
        (numbers_back now keys s.table.schema count (λ m. s.had m ≡ false) old_files olds stored_then (olds_fresh olds here_held.shows.are_written.fresh))
        (all_so (λ (g : FileGroup). s.next_group ≤ g.number) (λ (g : FileGroup). s.had g.number ≡ false) (λ g l. not_had g.number l) files f.written.above)

    abbrev mine : List ℕ
    mine = numbers_of old_files

    mine_below : AllBelow s.next_group mine
    mine_below = files_below (state old.vault.disk) keys s.table.schema s.next_group size s.had old_files olds here_held.shows.are_written.stored

    distinct : AreDistinct (numbers_of (old_files ++ files))
    distinct =
        let own : AreDistinct mine = subst (λ w. AreDistinct (numbers_of (written_of w))) is (own_distinct n mid.jobs.items x there_too here.parted) in
        subst AreDistinct (sym (numbers_joined old_files files)) (distinct_joined mine (numbers_of files) own f.written.distinct (λ m h. no_number files m s.next_group f.written.above (mine_below m h)))

    pub all_stored : AreStored now keys s.table.schema count (old_files ++ files) both
    all_stored = stored_append now keys s.table.schema count old_files files olds f.groups stored_then f.written.stored

    pub both_rows : length (rows both) ≡ length here_held.staged
    both_rows = sym (length_order row_key (rows both)) ∙ ap (λ (rs : List Row). length rs) all_rows ∙ length_order row_key here_held.staged

    pub rises : Rises s (commit n) count
    rises = record {
      most = length here_held.staged;
      work = sym (ap job_rows here_held.is_open);
      no_less = wrote.rises;
      no_more = (let a = f.no_more in let b = long_wait in omega (arith, a, b));
    }

    -- ---- the jobs that are left

    module _ (next : ℕ) where
      abbrev table_then : Table
      table_then = grown s added next

      -- a number of the table then was had, or the job wrote it, or it is new
      abbrev IsNumber : ℕ → Type 0
      IsNumber m = (s.had m ≡ true) ⊎ ((is_among mine m ≡ true) ⊎ (s.next_group ≤ m))

      own_numbers : (fs : List FileGroup) (within : (m : ℕ) → is_among (numbers_of fs) m ≡ true → is_among mine m ≡ true) → AllByRecursion (λ (g : FileGroup). IsNumber g.number) fs
      own_numbers [] within = tt
      own_numbers (g ∷ gs) within = (inr (inl (within g.number (among_first g.number (numbers_of gs)))), own_numbers gs (λ m h. within m (among_later g.number (numbers_of gs) m h)))

      all_numbers : (m : ℕ) → is_among (numbers table_then.groups) m ≡ true → IsNumber m
      all_numbers = at_number IsNumber table_then.groups
          (all_order (λ (g : Group). g.key) (λ (g : Group). IsNumber g.number) (s.table.groups ++ added) (all_append (λ (g : Group). IsNumber g.number) s.table.groups added
          (each_number IsNumber s.table.groups (λ m e. inl (had_all s stands.reached m e)))
          (all_order (λ (g : Group). g.key) (λ (g : Group). IsNumber g.number) both
          (numbers_too now keys s.table.schema count IsNumber (old_files ++ files) both (stored_append now keys s.table.schema count old_files files olds f.groups stored_then f.written.stored)
          (all_append (λ (g : FileGroup). IsNumber g.number) old_files files (own_numbers old_files (λ m h. h))
          (all_so (λ (g : FileGroup). s.next_group ≤ g.number) (λ (g : FileGroup). IsNumber g.number) (λ g l. inr (inr l)) files f.written.above))))))

      abbrev others : List OpenJob
      others = jobs_left (Some n) mid.jobs.items

      shown_left : AllZip (ShowsJob now keys s.table.schema s.next_group size s.had (ended_in n (state_of mid.snapshots).jobs)) others (ended_at n s.jobs)
      shown_left = jobs_left_shown now keys s.table.schema s.next_group size s.had n (state_of mid.snapshots).jobs mid.jobs.items s.jobs wrote.jobs

      apart : Shares mine (numbers_written others)
      apart = subst (λ w. Shares (numbers_of (written_of w)) (numbers_written others)) is (own_apart n x mid.jobs.items there_too here.parted)

      still : (m : ℕ) → is_among (numbers_written others) m ≡ true → s.had m ≡ false → had_with table_then s.had m ≡ false
      still m theirs none = by (is_among (numbers table_then.groups) m) refl
        where
          unlike : (b : Bool) → b ≡ true → b ≡ false → ⊥
          unlike b e g = let c : true ≡ false = sym e ∙ g in cc

          by : (b : Bool) → is_among (numbers table_then.groups) m ≡ b → (b || s.had m) ≡ false
          by false e = none
          by true e = absurd (⊎_elim (λ h. unlike (s.had m) h none)
              (λ more. ⊎_elim (λ own. unlike (is_among (numbers_written others) m) theirs (apart m own))
              (λ new. let low = written_below now keys s.table.schema s.next_group size s.had (ended_in n (state_of mid.snapshots).jobs) others (ended_at n s.jobs) shown_left m theirs in omega (arith, low, new)) more)
              (all_numbers m e))

      pub left : ShowsJobsLeft now mid (counted s count) table_then (Some n) (ended_at n s.jobs)
      left =
          let versions = record (state_of mid.snapshots) { jobs = ended_in n (state_of mid.snapshots).jobs } in
          jobs_on keys s.table.schema s.next_group count size wrote.rises (had_with table_then s.had) (had_with table_then s.had) (λ m low e. e) versions versions (λ q. Unit {0}) (λ g low h. tt) now now (spares_here keys (λ q. Unit {0}) now)
          (hold_same versions.jobs versions.jobs refl) others (ended_at n s.jobs)
          (jobs_then now keys s.table.schema s.next_group size s.had (had_with table_then s.had) (ended_in n (state_of mid.snapshots).jobs) others (ended_at n s.jobs) still shown_left)

      module _ (some_added : added ≢ []) (falls : s.table.next ≤ next) (above : AllByRecursion (λ (g : FileGroup). g.number < next) (old_files ++ files)) (least : (next ≡ s.table.next) ⊎ IsNextOf next (old_files ++ files)) where
        covered : next ≤ count
        covered = ⊎_elim
            (λ same. let a = (counters_cover s stands.reached).next in let b = wrote.rises in omega (arith, same, a, b))
            (λ at. by (old_files ++ files) both all_stored at)
            least
          where
            by : (fs : List FileGroup) (gs : List Group) → AreStored now keys s.table.schema count fs gs → IsNextOf next fs → next ≤ count
            by [] gs z at = absurd at
            by (g ∷ fs) [] z at = absurd z
            by (g ∷ fs) (h ∷ gs) z at = ⊎_elim (λ e. let low = z.0.below in omega (arith, e, low)) (λ later. by fs gs z.1 later) at

        pub brought : IsJobBrought state mid s count n here_held.staged come added next
        brought = record {
          is_open = here_held.is_open;
          pins = held_then.pins;
          pinned = held_then.pinned;
          free = held_then.shows.free;
          stored = stored_order now keys s.table.schema count (old_files ++ files) both all_stored;
          described = all_order (λ (g : FileGroup). g.key) (IsGroup keys (without_keys keys s.table.schema)) (old_files ++ files)
              (all_append (IsGroup keys (without_keys keys s.table.schema)) old_files files here_held.shows.are_written.described f.written.described);
          each = all_order (λ (g : Group). g.key) (IsGroupIn s.table.schema keys) both each_both;
          fresh = all_order (λ (g : FileGroup). g.key) (λ (g : FileGroup). s.had g.number ≡ false) (old_files ++ files) fresh;
          distinct = placed_are_distinct (old_files ++ files) distinct;
          some = some_added;
          hold = hold;
          full = added_full;
          rises = rises;
          never_falls = falls;
          below = all_order (λ (g : FileGroup). g.key) (λ (g : FileGroup). g.number < next) (old_files ++ files) above;
          covered = covered;
          left = left;
        }
