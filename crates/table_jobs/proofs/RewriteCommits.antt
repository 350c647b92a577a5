-- The commit of a rewrite, once the new groups of its runs are written.
use Rattle.std.proofs.Common.{◌≡◌, ◌≢◌, ◌≤◌, ◌<◌, ◌⊎◌, ℕ, Bool, true, false, not, ◌||◌, nat_eq, List, [], ◌∷◌, ◌++◌, map, length, Some, None, refl, sym, ◌∙◌, ap, subst, arith, inl, inr, ⊎_elim}
use Rattle.std.specs.List.{AllByRecursion, AllZip, list_all}
use Rattle.std.proofs.lemmas.Bool.{and_from, and_parts, eqb-true}
use Rattle.lists.proofs.Lists.{all_append, all_weaker as all_so, all_left as front_of_all, all_right as rest_of_all}
use Rattle.bits.specs.declared.refusal.Refusal.{Refusal}
use Rattle.bits.specs.declared.refusal.Refusal.TheVariants.{NoJob, Stale, Page}
use Rattle.schema.specs.Shape.{Fields}
use Rattle.schema.specs.Cutting.{is_among}
use Rattle.schema.specs.Keys.{KeyColumn, AreDistinct, without_keys}
use Rattle.partition.specs.Order.{AreInTableOrder}
use Rattle.disk.specs.State.{State as DiskState}
use Rattle.manifest.specs.Groups.{Group as FileGroup, Root, root_of, keys_of}
use Rattle.manifest.specs.Records.{IsGroup}
use Rattle.manifest.specs.Root.{IsDescription, stored_of}
use Rattle.manifest.specs.Laid.{IsRootTooHeavy}
use Rattle.snapshots.specs.State.{Pins, first_of, unless as unless_so, fault_of, committed, is_version, has_groups, sources_of, sources_in, open_at as pinned_at, ended_at as ended_in}
use Rattle.snapshots.specs.Views.{state_of}
use Rattle.planning.specs.Told.{numbers_of, IsNextOf}
use Rattle.planning.specs.Replaced.{Run, changes_of, replaced}
use Rattle.planning.specs.Numbered.{brought_by}
use Rattle.planning.specs.Shown.{shown, all_shown}
use Rattle.planning.specs.Standing.{IsKeyOf, IsMadeOf, AreMadeOf}
use Rattle.planning.proofs.Standing.{standing_runs_stand, standing_runs_are_rewritten}
use Rattle.planning.proofs.Reordered.{rewritten_are_in_order}
use Rattle.planning.proofs.Numbered.{rewritten_are_distinct}
use Rattle.table.specs.Table.{Row, Group, Table, IsTable, IsGroupIn, rows, numbers}
use Rattle.table.specs.Commits.{rewritten, are_full, are_fresh, Rewrites, with_numbers}
use Rattle.table.specs.State.{State, rewriting, sources, open_at, ended_at}
use Rattle.table.specs.Standing.{StandInRows}
use Rattle.table.specs.Checks.{fault, stale_fault}
use Rattle.table.specs.Calls.{commit}
use Rattle.table.specs.Leading.{Leads, Rises, job_rows}
use Rattle.table.specs.Limits.{IsOver, root as over_root}
use Rattle.table.proofs.Standing.{sources_stand}
use Rattle.table.proofs.Counters.{counters_cover}
use Rattle.table_state.specs.declared.standing.Core.{Core}
use Rattle.table_state.specs.Lookups.{jobs_left}
use Rattle.table_state.specs.Stands.{IsStored, AreStored, ShowsJob, ShowsOpen, Stands}
use Rattle.table_commits.specs.Writing.{counted}
use Rattle.table_commits.specs.Committing.{with_version, IsPlanned, ShowsJobsLeft}
use Rattle.table_commits.specs.Acting.{WroteTo, AsksCommit}
use Rattle.table_jobs.specs.Rewritten.{IsNew, AreNew, HasRewritten}
use Rattle.table_commits.proofs.DistinctNumbers.{among_first}
use Rattle.table_commits.proofs.AppendCommits.{all_fresh, at_number, each_number, stored_append, numbers_too, numbers_back, same_keys}
use Rattle.table_reads.proofs.SomethingEnds.{found_open}
use Rattle.table_reads.proofs.AfterEvents.{jobs_left_shown}
use Rattle.table_commits.proofs.NumbersHad.{had_all}
use Rattle.table_jobs.proofs.StagedCommitTables.{distinct_apart}
use Rattle.table_commits.proofs.SomeGroups.{distinct_test, order_test, same_numbers}
use Rattle.table_commits.proofs.JobsAfterCommits.{jobs_left_so}
use Rattle.table_commits.proofs.PlannedWeights.{too_heavy_is_too_much}
use Rattle.table_jobs.proofs.ComesInPlace.{rows_at, rows_of, each_at, shown_so, all_each, stored_each, shown_parts, all_seen, all_unseen, rewritten_all, first_there, numbers_in_all, among_runs, picked}

-- ---- runs of the code, and runs of the table

module _ (s : State) (all : List Group) where
  run_made : (r : Run) (run gs : List Group) → IsNew s r run gs → all_shown (rows_of all) r.come ≡ gs → AllByRecursion (λ (g : Group). s.had g.number ≡ false) gs → IsMadeOf (rows_of all) s.options.group_rows s.had r run
  run_made r run gs new seen fresh = record {
    named = new.named;
    same_rows = ap rows seen ∙ new.holds.hold;
    same_key = all_unseen all (λ (g : Group). IsKeyOf run g.key) r.come (subst (λ (hs : List Group). AllByRecursion (λ (g : Group). IsKeyOf run g.key) hs) (sym seen) (keyed run new.some new.keyed gs new.holds.keyed));
    full = ap (are_full s.options.group_rows) seen ∙ new.holds.full;
    fresh = ap (are_fresh s.had) seen ∙ all_fresh s.had gs fresh;
  }
    where
      keyed : (xs : List Group) → 1 ≤ length (rows xs) → AllByRecursion (λ (g : Group). g.key ≡ new.key) xs → (hs : List Group) → AllByRecursion (λ (g : Group). g.key ≡ new.key) hs → AllByRecursion (λ (g : Group). IsKeyOf xs g.key) hs
      keyed [] some are hs h = absurd (omega (arith, some))
      keyed (x ∷ xs) some are [] h = tt
      keyed (x ∷ xs) some are (g ∷ hs) h = (h.0 ∙ sym are.0, keyed (x ∷ xs) some are hs h.1)

  pub runs_made : (disk : DiskState) (keys : List KeyColumn) (schema : Fields) (count : ℕ) (rs : List Run) (runs gss : List (List Group)) → AreNew s rs runs gss → all_shown (rows_of all) (brought_by rs) ≡ sources gss → AllByRecursion (λ (g : Group). s.had g.number ≡ false) (sources gss)
      → AreMadeOf (rows_of all) s.options.group_rows s.had rs runs
  runs_made disk keys schema count [] [] [] new seen fresh = tt
  runs_made disk keys schema count (r ∷ rs) (run ∷ runs) (gs ∷ gss) new seen fresh =
      let parts = shown_parts disk keys schema count all r.come (brought_by rs) gs (sources gss) seen new.0.as_many in (
        run_made r run gs new.0 parts.0 (front_of_all (λ (g : Group). s.had g.number ≡ false) gs (sources gss) fresh),
        runs_made disk keys schema count rs runs gss new.1 parts.1 (rest_of_all (λ (g : Group). s.had g.number ≡ false) gs (sources gss) fresh),
      )
  runs_made disk keys schema count [] [] (gs ∷ gss) new seen fresh = absurd new
  runs_made disk keys schema count [] (run ∷ runs) gss new seen fresh = absurd new
  runs_made disk keys schema count (r ∷ rs) [] gss new seen fresh = absurd new
  runs_made disk keys schema count (r ∷ rs) (run ∷ runs) [] new seen fresh = absurd new

  each_in : (rs : List Run) (runs gss : List (List Group)) → AreNew s rs runs gss → AllByRecursion (IsGroupIn s.table.schema s.table.keys) (sources gss)
  each_in [] [] [] new = tt
  each_in (r ∷ rs) (run ∷ runs) (gs ∷ gss) new = all_append (IsGroupIn s.table.schema s.table.keys) gs (sources gss) new.0.holds.each (each_in rs runs gss new.1)
  each_in [] [] (gs ∷ gss) new = absurd new
  each_in [] (run ∷ runs) gss new = absurd new
  each_in (r ∷ rs) [] gss new = absurd new
  each_in (r ∷ rs) (run ∷ runs) [] new = absurd new

  all_rows : (rs : List Run) (runs gss : List (List Group)) → AreNew s rs runs gss → length (rows (sources gss)) ≡ length (rows (sources runs))
  all_rows rs runs gss new = ap (λ (xs : List Row). length xs) (same rs runs gss new)
    where
      both : (xs ys : List Group) → rows (xs ++ ys) ≡ rows xs ++ rows ys
      both [] ys = refl
      both (x ∷ xs) ys = ap (λ (zs : List Row). x.rows ++ zs) (both xs ys) ∙ sym (three x.rows (rows xs) (rows ys))
        where
          three : (rs ss ts : List Row) → (rs ++ ss) ++ ts ≡ rs ++ (ss ++ ts)
          three [] ss ts = refl
          three (r ∷ rs) ss ts = ap (λ (zs : List Row). r ∷ zs) (three rs ss ts)

      same : (qs : List Run) (runs gss : List (List Group)) → AreNew s qs runs gss → rows (sources gss) ≡ rows (sources runs)
      same [] [] [] new = refl
      same (q ∷ qs) (run ∷ runs) (gs ∷ gss) new = both gs (sources gss) ∙ (λ i. new.0.holds.hold i ++ same qs runs gss new.1 i) ∙ sym (both run (sources runs))
      same [] [] (gs ∷ gss) new = absurd new
      same [] (run ∷ runs) gss new = absurd new
      same (q ∷ qs) [] gss new = absurd new
      same (q ∷ qs) (run ∷ runs) [] new = absurd new

  -- a first run that brings a number which was not had
  pub record HasFirst (rs : List Run) (runs gss : List (List Group)) : Type 0 where
    pub r : Run
    pub others : List Run
    pub are : rs ≡ r ∷ others
    pub source : ℕ
    pub rest : List ℕ
    pub named : r.sources ≡ source ∷ rest
    pub there : is_among (numbers_in_all (map numbers runs)) source ≡ true
    pub some : 1 ≤ length r.come

  pub first_of_runs : (rs : List Run) (runs gss : List (List Group)) → AreNew s rs runs gss → runs ≢ [] → HasFirst rs runs gss
  first_of_runs [] [] gss new some = absurd (some refl)
  first_of_runs (r ∷ rs) (run ∷ runs) (gs ∷ gss) new some = by run gs new.0.named new.0.some new.0.holds.hold new.0.as_many
    where
      by : (xs hs : List Group) → r.sources ≡ numbers xs → 1 ≤ length (rows xs) → rows hs ≡ rows xs → length r.come ≡ length hs → HasFirst (r ∷ rs) (xs ∷ runs) (hs ∷ gss)
      by [] hs named some same many = absurd (omega (arith, some))
      by (x ∷ xs) [] named some same many = let e = ap (λ (zs : List Row). length zs) same in absurd (omega (arith, some, e))
      by (x ∷ xs) (h ∷ hs) named some same many = record {
        r = r;
        others = rs;
        are = refl;
        source = x.number;
        rest = numbers xs;
        named = named;
        there = among_first x.number (numbers xs ++ numbers_in_all (map numbers runs));
        some = omega (arith, many);
      }
  first_of_runs [] (run ∷ runs) gss new some = absurd new
  first_of_runs (r ∷ rs) [] gss new some = absurd (some refl)
  first_of_runs (r ∷ rs) (run ∷ runs) [] new some = absurd new

not_unless : (b : Bool) → (e : Refusal) → unless_so b e ≡ None → b ≡ true
not_unless true e h = refl
not_unless false e h = absurd (cc)

module _ {D : Type 0} (state : D → DiskState) (old mid : Core D) (s : State) (stands : Stands state old s) (is_open : s.closed ≡ false) (n : ℕ) (runs : List (List Group)) (unread : List ℕ)
    (there : open_at n s.jobs ≡ Some (rewriting runs unread)) (here_all : stale_fault s.table (Some (rewriting runs unread)) ≡ None) (some_runs : runs ≢ [])
    (files : List FileGroup) (made : List Run) (h : HasRewritten state old mid s (Some n) files made runs) (pins : Pins) (pinned : pinned_at n (state_of mid.snapshots).jobs ≡ Some pins)
    (held : AllByRecursion (λ m. is_among (numbers (sources runs)) m ≡ true) pins.sources) where
  abbrev disk : DiskState
  disk = state mid.vault.disk

  abbrev keys : List KeyColumn
  keys = s.table.keys

  abbrev schema : Fields
  schema = s.table.schema

  abbrev counter : ℕ
  counter = mid.next_group

  abbrev old_root : Root
  old_root = root_of mid.manifest

  abbrev olds : List FileGroup
  olds = old_root.groups

  wrote : WroteTo state old mid s counter
  wrote = h.written.wrote

  here : ShowsOpen disk mid (counted s counter)
  here = wrote.shows.shown is_open

  abbrev news : List Group
  news = sources h.groups

  abbrev all : List Group
  all = s.table.groups ++ news

  stand : StandInRows runs s.table.groups
  stand = sources_stand s n runs unread stands.reached there here_all

  -- ---- numbers

  not_had : (m : ℕ) → s.next_group ≤ m → s.had m ≡ false
  not_had m low = by (s.had m) refl
    where
      by : (b : Bool) → s.had m ≡ b → s.had m ≡ false
      by false e = e
      by true e = let l = (counters_cover s stands.reached).had m e in absurd (omega (arith, l, low))

  fresh : AllByRecursion (λ (g : FileGroup). s.had g.number ≡ false) files
  fresh = all_so (λ (g : FileGroup). s.next_group ≤ g.number) (λ (g : FileGroup). s.had g.number ≡ false) (λ g l. not_had g.number l) files h.written.above

  news_fresh : AllByRecursion (λ (g : Group). s.had g.number ≡ false) news
  news_fresh = numbers_too disk keys schema counter (λ m. s.had m ≡ false) files news h.written.stored fresh

  olds_had : AllByRecursion (λ (g : FileGroup). s.had g.number ≡ true) olds
  olds_had = numbers_back disk keys schema counter (λ m. s.had m ≡ true) olds s.table.groups here.version (each_number (λ m. s.had m ≡ true) s.table.groups (λ m e. had_all s stands.reached m e))

  all_distinct : AreDistinct (numbers_of (olds ++ files))
  all_distinct = distinct_apart s.had olds files olds_had fresh here.means.described.distinct h.written.distinct

  stored_all : AreStored disk keys schema counter (olds ++ files) all
  stored_all = stored_append disk keys schema counter olds files s.table.groups news here.version h.written.stored

  -- ---- what files show

  at_all : AllByRecursion (λ (g : Group). rows_at all g.number ≡ g.rows) all
  at_all = each_at all (subst (λ (ns : List ℕ). AreDistinct ns) (same_numbers disk keys schema counter (olds ++ files) all stored_all) all_distinct)

  shown_olds : all_shown (rows_of all) olds ≡ s.table.groups
  shown_olds = shown_so disk keys schema counter all olds s.table.groups here.version (front_of_all (λ (g : Group). rows_at all g.number ≡ g.rows) s.table.groups news at_all)

  shown_files : all_shown (rows_of all) files ≡ news
  shown_files = shown_so disk keys schema counter all files news h.written.stored (rest_of_all (λ (g : Group). rows_at all g.number ≡ g.rows) s.table.groups news at_all)

  abbrev pub files_then : List FileGroup
  files_then = replaced (changes_of made) olds

  made_of : AreMadeOf (rows_of all) s.options.group_rows s.had made runs
  made_of = runs_made s all disk keys schema counter made runs h.groups h.are_new (ap (all_shown (rows_of all)) h.come ∙ shown_files) news_fresh

  stand_olds : StandInRows runs (all_shown (rows_of all) olds)
  stand_olds = subst (λ (gs : List Group). StandInRows runs gs) (sym shown_olds) stand

  -- what holds of the files that were there, and of those that come
  over_all : (P : FileGroup → Type 0) → AllByRecursion P olds → AllByRecursion P files → AllByRecursion P files_then
  over_all P a b = rewritten_all P made olds a (subst (λ (fs : List FileGroup). AllByRecursion P fs) (sym h.come) b)

  abbrev pub groups_then : List Group
  groups_then = all_shown (rows_of all) files_then

  stored : AreStored disk keys schema counter files_then groups_then
  stored = stored_each disk keys schema counter all files_then (over_all (λ (f : FileGroup). IsStored disk keys schema counter f (shown (rows_of all) f))
      (all_each disk keys schema counter all olds s.table.groups here.version shown_olds) (all_each disk keys schema counter all files news h.written.stored shown_files))

  files_distinct : AreDistinct (numbers_of files_then)
  files_distinct = rewritten_are_distinct made olds (subst (λ (fs : List FileGroup). AreDistinct (numbers_of (olds ++ fs))) (sym h.come) all_distinct)

  files_ordered : AreInTableOrder (keys_of files_then)
  files_ordered = rewritten_are_in_order (rows_of all) s.options.group_rows s.had made olds here.means.described.distinct
      (standing_runs_stand (rows_of all) s.options.group_rows s.had made runs olds stand_olds made_of) here.means.described.in_order

  each_then : AllByRecursion (IsGroupIn schema keys) groups_then
  each_then = all_seen all (IsGroupIn schema keys) files_then (over_all (λ (f : FileGroup). IsGroupIn schema keys (shown (rows_of all) f))
      (all_unseen all (IsGroupIn schema keys) olds (subst (λ (gs : List Group). AllByRecursion (IsGroupIn schema keys) gs) (sym shown_olds) stands.shows.valid.each))
      (all_unseen all (IsGroupIn schema keys) files (subst (λ (gs : List Group). AllByRecursion (IsGroupIn schema keys) gs) (sym shown_files) (each_in s all made runs h.groups h.are_new))))

  rewrites : Rewrites s.options.group_rows s.had (map numbers runs) s.table.groups groups_then
  rewrites = subst (λ (gs : List Group). Rewrites s.options.group_rows s.had (map numbers runs) gs groups_then) shown_olds
      (standing_runs_are_rewritten (rows_of all) s.options.group_rows s.had made runs olds here.means.described.distinct stand_olds made_of)

  count_is : length (rows (sources runs)) ≡ length (rows (with_numbers (numbers_in_all (map numbers runs)) s.table.groups))
  count_is = ap (λ (gs : List Group). length (rows gs)) (sym (picked runs s.table.groups stand stands.shows.valid.distinct))

  pub rows_same : length (rows news) ≡ length (rows (sources runs))
  rows_same = all_rows s all made runs h.groups h.are_new

  pub rises : Rises s (commit n) counter
  rises = record { most = length (rows (sources runs)); work = sym (ap job_rows there); no_less = wrote.rises; no_more = h.no_more }

  -- ---- the numbers that are there then

  numbers_then : AllByRecursion (λ (f : FileGroup). (s.had f.number ≡ true) ⊎ (s.next_group ≤ f.number)) files_then
  numbers_then = over_all (λ (f : FileGroup). (s.had f.number ≡ true) ⊎ (s.next_group ≤ f.number))
      (all_so (λ (f : FileGroup). s.had f.number ≡ true) (λ (f : FileGroup). (s.had f.number ≡ true) ⊎ (s.next_group ≤ f.number)) (λ f e. inl e) olds olds_had)
      (all_so (λ (f : FileGroup). s.next_group ≤ f.number) (λ (f : FileGroup). (s.had f.number ≡ true) ⊎ (s.next_group ≤ f.number)) (λ f l. inr l) files h.written.above)

  had_or_new : (m : ℕ) → is_among (numbers groups_then) m ≡ true → (s.had m ≡ true) ⊎ (s.next_group ≤ m)
  had_or_new = at_number (λ m. (s.had m ≡ true) ⊎ (s.next_group ≤ m)) groups_then (numbers_too disk keys schema counter (λ m. (s.had m ≡ true) ⊎ (s.next_group ≤ m)) files_then groups_then stored numbers_then)

  first : HasFirst s all made runs h.groups
  first = first_of_runs s all made runs h.groups h.are_new some_runs

  -- a group is there that was not
  other_groups : groups_then ≡ s.table.groups → ⊥
  other_groups same = by first.r.come first.some (λ m e. e)
    where
      of_all : AllByRecursion (λ (f : FileGroup). s.had f.number ≡ false) first.r.come
      of_all = front_of_all (λ (f : FileGroup). s.had f.number ≡ false) first.r.come (brought_by first.others)
          (subst (λ (rs : List Run). AllByRecursion (λ (f : FileGroup). s.had f.number ≡ false) (brought_by rs)) first.are (subst (λ (fs : List FileGroup). AllByRecursion (λ (f : FileGroup). s.had f.number ≡ false) fs) (sym h.come) fresh))

      source_there : is_among (numbers_of olds) first.source ≡ true
      source_there = subst (λ (ns : List ℕ). is_among ns first.source ≡ true) (sym (same_numbers disk keys schema counter olds s.table.groups here.version)) (standing first.source first.there)
        where
          standing : (m : ℕ) → is_among (numbers_in_all (map numbers runs)) m ≡ true → is_among (numbers s.table.groups) m ≡ true
          standing m e = among_runs runs s.table.groups stand m e

      by : (come : List FileGroup) → 1 ≤ length come → ((m : ℕ) → is_among (numbers_of come) m ≡ true → is_among (numbers_of first.r.come) m ≡ true) → ⊥
      by [] some within = omega (arith, some)
      by (f ∷ fs) some within =
          let mine = within f.number (among_first f.number (numbers_of fs)) in
          let now = first_there first.r first.others first.source first.rest first.named olds source_there f.number mine in
          let seen : is_among (numbers groups_then) f.number ≡ true = subst (λ (ns : List ℕ). is_among ns f.number ≡ true) (same_numbers disk keys schema counter files_then groups_then stored)
          (subst (λ (rs : List Run). is_among (numbers_of (replaced (changes_of rs) olds)) f.number ≡ true) (sym first.are) now) in
          let was = had_all s stands.reached f.number (subst (λ (gs : List Group). is_among (numbers gs) f.number ≡ true) same seen) in
          let none = at_file f.number first.r.come of_all mine in
          let c : true ≡ false = sym was ∙ none in cc
        where
          at_file : (m : ℕ) (gs : List FileGroup) → AllByRecursion (λ (g : FileGroup). s.had g.number ≡ false) gs → is_among (numbers_of gs) m ≡ true → s.had m ≡ false
          at_file m [] a e = absurd (cc)
          at_file m (g ∷ gs) a e = one (nat_eq g.number m) refl (at_file m gs a.1) e
            where
              one : (b : Bool) → nat_eq g.number m ≡ b → (is_among (numbers_of gs) m ≡ true → s.had m ≡ false) → (b || is_among (numbers_of gs) m) ≡ true → s.had m ≡ false
              one true k later f = subst (λ (j : ℕ). s.had j ≡ false) (eqb-true g.number m k) a.0
              one false k later f = later f

  -- ---- the table then

  module _ (next : ℕ) (falls : s.table.next ≤ next) (above : AllByRecursion (λ (g : FileGroup). g.number < next) files) (least : (next ≡ s.table.next) ⊎ IsNextOf next files) where
    abbrev pub table_then : Table
    table_then = record s.table { groups = groups_then; next = next }

    covered : next ≤ counter
    covered = ⊎_elim
        (λ same. let a = (counters_cover s stands.reached).next in let b = wrote.rises in omega (arith, same, a, b))
        (λ at. by files news h.written.stored at)
        least
      where
        by : (fs : List FileGroup) (gs : List Group) → AreStored disk keys schema counter fs gs → IsNextOf next fs → next ≤ counter
        by [] gs z at = absurd at
        by (f ∷ fs) [] z at = absurd z
        by (f ∷ fs) (g ∷ gs) z at = ⊎_elim (λ is. let low = z.0.below in omega (arith, is, low)) (λ later. by fs gs z.1 later) at

    all_below : AllByRecursion (λ (g : FileGroup). g.number < next) files_then
    all_below = over_all (λ (g : FileGroup). g.number < next)
        (all_so (λ (g : FileGroup). g.number < old_root.next) (λ (g : FileGroup). g.number < next) (λ g l. let k = here.next in omega (arith, l, k, falls)) olds here.means.described.below) above

    is_table : IsTable table_then
    is_table = let v = stands.shows.valid in record {
      schema = v.schema;
      within = v.within;
      keys = v.keys;
      each = each_then;
      in_order = subst (λ ks. AreInTableOrder ks) (same_keys disk keys schema counter files_then groups_then stored) files_ordered;
      distinct = subst (λ (ns : List ℕ). AreDistinct ns) (same_numbers disk keys schema counter files_then groups_then stored) files_distinct;
      below = numbers_too disk keys schema counter (λ m. m < next) files_then groups_then stored all_below;
    }

    described : IsDescription (with_version old_root files_then next)
    described =
        let d = here.means.described in
        let same : IsGroup keys (without_keys keys schema) ≡ IsGroup old_root.keys (stored_of old_root) =
        ap (λ ks. IsGroup ks (without_keys ks schema)) (sym wrote.shows.keys) ∙ ap (λ fs. IsGroup old_root.keys (without_keys old_root.keys fs)) (sym wrote.shows.schema) in
        record {
          schema = d.schema;
          within = d.within;
          keys = d.keys;
          stored = d.stored;
          fits = let a = wrote.shows.counted in let b = covered in omega (arith, a, b);
          each = over_all (IsGroup old_root.keys (stored_of old_root)) d.each (subst (λ P. AllByRecursion P files) same h.written.described);
          in_order = files_ordered;
          distinct = files_distinct;
          below = all_below;
        }

    -- ---- the versions

    version_told : is_version files_then ≡ true
    version_told = and_from _ _ (distinct_test (numbers_of files_then) files_distinct) (order_test (keys_of files_then) files_ordered)

    sources_there : has_groups (state_of mid.snapshots).current (sources_of (state_of mid.snapshots) (Some n)) ≡ true
    sources_there = ap (has_groups (state_of mid.snapshots).current) (ap sources_in pinned) ∙ ap (λ (v : List FileGroup). has_groups v pins.sources) here.current ∙ by pins.sources held
      where
        in_table : (m : ℕ) → is_among (numbers (sources runs)) m ≡ true → is_among (numbers_of olds) m ≡ true
        in_table m e = subst (λ (ns : List ℕ). is_among ns m ≡ true) (sym (same_numbers disk keys schema counter olds s.table.groups here.version))
            (every (numbers (sources runs)) (not_unless (list_all (is_among (numbers s.table.groups)) (numbers (sources runs))) Stale here_all) m e)
          where
            every : (ns : List ℕ) → list_all (is_among (numbers s.table.groups)) ns ≡ true → (k : ℕ) → is_among ns k ≡ true → is_among (numbers s.table.groups) k ≡ true
            every [] e k f = absurd (cc)
            every (m ∷ ns) e k f =
                let p = and_parts (is_among (numbers s.table.groups) m) (list_all (is_among (numbers s.table.groups)) ns) e in
                one (nat_eq m k) refl p.0 (every ns p.1 k) f
              where
                one : (b : Bool) → nat_eq m k ≡ b → is_among (numbers s.table.groups) m ≡ true → (is_among ns k ≡ true → is_among (numbers s.table.groups) k ≡ true) → (b || is_among ns k) ≡ true → is_among (numbers s.table.groups) k ≡ true
                one true same own later g = subst (λ (j : ℕ). is_among (numbers s.table.groups) j ≡ true) (eqb-true m k same) own
                one false same own later g = later g

        by : (ns : List ℕ) → AllByRecursion (λ m. is_among (numbers (sources runs)) m ≡ true) ns → has_groups olds ns ≡ true
        by [] a = refl
        by (m ∷ ns) a = and_from (is_among (numbers_of olds) m) (list_all (is_among (numbers_of olds)) ns) (in_table m a.0) (by ns a.1)

    taken : fault_of (state_of mid.snapshots) (committed files_then (Some n)) ≡ None
    taken =
        let current = (state_of mid.snapshots).current in
        ap (λ (b : Bool). first_of (unless_so b NoJob ∷ unless_so (has_groups current (sources_of (state_of mid.snapshots) (Some n))) Stale ∷ unless_so (is_version files_then) Page ∷ [])) (found_open n (state_of mid.snapshots).jobs pins pinned)
        ∙ ap (λ (b : Bool). first_of (None ∷ unless_so b Stale ∷ unless_so (is_version files_then) Page ∷ [])) sources_there
        ∙ ap (λ (b : Bool). first_of (unless_so b Page ∷ [])) version_told

    -- ---- the jobs that are left

    shown_left : AllZip (ShowsJob disk keys schema s.next_group s.options.group_rows s.had (ended_in n (state_of mid.snapshots).jobs)) (jobs_left (Some n) mid.jobs.items) (ended_at n s.jobs)
    shown_left = jobs_left_shown disk keys schema s.next_group s.options.group_rows s.had n (state_of mid.snapshots).jobs mid.jobs.items s.jobs wrote.jobs

    left : ShowsJobsLeft disk mid (counted s counter) table_then (Some n) (ended_at n s.jobs)
    left = jobs_left_so disk keys schema s.next_group counter s.options.group_rows wrote.rises s.had table_then had_or_new (record (state_of mid.snapshots) { jobs = ended_in n (state_of mid.snapshots).jobs }) (jobs_left (Some n) mid.jobs.items) (ended_at n s.jobs) shown_left

    pub planned : IsPlanned disk mid (counted s counter) table_then (ended_at n s.jobs) (Some n) (with_version old_root files_then next)
    planned = record {
      valid = is_table;
      keys = refl;
      schema_is = wrote.shows.schema;
      keys_are = wrote.shows.keys;
      next_is = refl;
      covers = covered;
      stored = stored;
      described = described;
      unrefused = taken;
      jobs_are = left;
    }

    pub leads : Leads s (commit n) (length (rows (sources runs))) table_then counter
    leads = record {
      made = rewritten (map numbers runs);
      asked = (rewriting runs unread, there, refl);
      step = record { schema = refl; keys = refl; change = (rewrites, count_is); table = is_table; never_falls = falls; same = λ of_groups same. absurd (other_groups same) };
      rises = rises;
      covers = covered;
    }

    other : table_then ≢ s.table
    other same = other_groups (ap (λ (t : Table). t.groups) same)

    pub asks : fault s (commit n) ≡ None → AsksCommit s (commit n) (length (rows (sources runs))) table_then counter
    asks fine = record {
      leads = leads;
      unrefused = fine;
      other = other;
      on = ap not is_open;
      memory = refl;
      disk = refl;
      does = λ new is. (fine, is);
      stays = λ more rises. record { counter = more; rises = rises; is = refl };
    }

    pub over : IsRootTooHeavy (with_version old_root files_then next) → IsOver s (commit n)
    over heavy = over_root (length (rows (sources runs))) table_then counter leads other (too_heavy_is_too_much disk counter table_then (with_version old_root files_then next) wrote.shows.schema wrote.shows.keys stored described heavy)
