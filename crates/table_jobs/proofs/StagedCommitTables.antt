-- The commit of an append that was staged, once all its groups are written.
use Rattle.std.proofs.Common.{◌≡◌, ◌≢◌, ◌<◌, ℕ, Bool, true, false, not, ◌||◌, nat_eq, List, [], ◌∷◌, ◌++◌, length, Some, None, refl, sym, ◌∙◌, ap, subst, arith}
use Rattle.std.specs.List.{AllByRecursion}
use Rattle.std.proofs.lemmas.Bool.{and_from, eqb-true}
use Rattle.std.proofs.lemmas.List.{length-append, nil_from_length}
use Rattle.lists.proofs.Lists.{all_append, all_weaker as all_so}
use Rattle.bits.specs.declared.refusal.Refusal.TheVariants.{NoJob, Stale, Page}
use Rattle.schema.specs.Cutting.{is_among}
use Rattle.schema.specs.Keys.{AreDistinct, without_keys}
use Rattle.partition.specs.Order.{AreInTableOrder}
use Rattle.disk.specs.State.{State as DiskState}
use Rattle.manifest.specs.Groups.{Group as FileGroup, Root, root_of, keys_of}
use Rattle.manifest.specs.Records.{IsGroup}
use Rattle.manifest.specs.Root.{IsDescription, stored_of}
use Rattle.manifest.specs.Laid.{IsRootTooHeavy}
use Rattle.snapshots.specs.State.{first_of, unless as unless_so, fault_of, committed, is_version, has_groups, sources_of, sources_in}
use Rattle.snapshots.specs.Views.{state_of}
use Rattle.planning.specs.Told.{numbers_of}
use Rattle.table.specs.Table.{Row, Group, Table, IsTable, IsGroupIn}
use Rattle.table.specs.InOrder.{in_order}
use Rattle.table.specs.Commits.{appended}
use Rattle.table.specs.State.{State, appending, ended_at}
use Rattle.table.specs.Checks.{fault}
use Rattle.table.specs.Calls.{commit}
use Rattle.table.specs.Leading.{Leads}
use Rattle.table.specs.Limits.{IsOver, root as over_root}
use Rattle.table_state.specs.declared.standing.Core.{Core}
use Rattle.table_state.specs.Stands.{AreStored, ShowsOpen, Stands}
use Rattle.table_commits.specs.Writing.{counted}
use Rattle.table_commits.specs.Committing.{with_version, IsPlanned}
use Rattle.table_commits.specs.Acting.{WroteTo, AsksCommit}
use Rattle.table_commits.specs.Bringing.{PlacesInOrder, PlacesDistinct}
use Rattle.table_jobs.specs.Staging.{IsJobBrought, StagedAreReady}
use Rattle.table_commits.proofs.AppendCommits.{among_append, each_number, all_fresh, all_order, length_order, stored_append, stored_order, same_keys, numbers_too, numbers_back}
use Rattle.table_reads.proofs.SomethingEnds.{found_open}
use Rattle.table_commits.proofs.NumbersHad.{had_all}
use Rattle.table_commits.proofs.SomeGroups.{distinct_test, order_test, same_numbers}
use Rattle.table_commits.proofs.PlannedWeights.{too_heavy_is_too_much}

-- what was had is apart from what was not
no_had : (had : ℕ → Bool) (gs : List FileGroup) (n : ℕ) → AllByRecursion (λ (g : FileGroup). had g.number ≡ false) gs → had n ≡ true → is_among (numbers_of gs) n ≡ false
no_had had [] n h e = refl
no_had had (g ∷ gs) n h e = by (nat_eq g.number n) refl (no_had had gs n h.1 e)
  where
    by : (b : Bool) → nat_eq g.number n ≡ b → is_among (numbers_of gs) n ≡ false → (b || is_among (numbers_of gs) n) ≡ false
    by true same r = let c : true ≡ false = sym e ∙ ap had (sym (eqb-true g.number n same)) ∙ h.0 in absurd (cc)
    by false same r = r

pub distinct_apart : (had : ℕ → Bool) (xs ys : List FileGroup) → AllByRecursion (λ (g : FileGroup). had g.number ≡ true) xs → AllByRecursion (λ (g : FileGroup). had g.number ≡ false) ys
    → AreDistinct (numbers_of xs) → AreDistinct (numbers_of ys) → AreDistinct (numbers_of (xs ++ ys))
distinct_apart had [] ys a b d e = e
distinct_apart had (x ∷ xs) ys a b d e = (among_append xs ys x.number d.0 (no_had had ys x.number b a.0), distinct_apart had xs ys a.1 b d.1 e)

module _ {D : Type 0} (state : D → DiskState) (old mid : Core D) (s : State) (counter : ℕ) (stands : Stands state old s) (is_open : s.closed ≡ false) (wrote : WroteTo state old mid s counter)
    (n : ℕ) (staged : List Row) (come : List FileGroup) (added : List Group) (next : ℕ) (brought : IsJobBrought state mid s counter n staged come added next) (ordered : PlacesInOrder) (parted : PlacesDistinct) where
  abbrev disk : DiskState
  disk = state mid.vault.disk

  abbrev old_root : Root
  old_root = root_of mid.manifest

  abbrev files : List FileGroup
  files = in_order (λ (g : FileGroup). g.key) (old_root.groups ++ come)

  abbrev grown : Table
  grown = record s.table { groups = in_order (λ (g : Group). g.key) (s.table.groups ++ added); next = next }

  here : ShowsOpen disk mid (counted s counter)
  here = wrote.shows.shown is_open

  stored : AreStored disk s.table.keys s.table.schema counter files grown.groups
  stored = stored_order disk s.table.keys s.table.schema counter (old_root.groups ++ come) (s.table.groups ++ added)
      (stored_append disk s.table.keys s.table.schema counter old_root.groups come s.table.groups added here.version brought.stored)

  old_had : AllByRecursion (λ (g : FileGroup). s.had g.number ≡ true) old_root.groups
  old_had = numbers_back disk s.table.keys s.table.schema counter (λ m. s.had m ≡ true) old_root.groups s.table.groups here.version
      (each_number (λ m. s.had m ≡ true) s.table.groups (λ m e. had_all s stands.reached m e))

  files_distinct : AreDistinct (numbers_of files)
  files_distinct = parted (old_root.groups ++ come) (distinct_apart s.had old_root.groups come old_had brought.fresh here.means.described.distinct brought.distinct)

  files_ordered : AreInTableOrder (keys_of files)
  files_ordered = ordered (old_root.groups ++ come)

  is_table : IsTable grown
  is_table =
      let v = stands.shows.valid in
      record {
        schema = v.schema;
        within = v.within;
        keys = v.keys;
        each = all_order (λ (g : Group). g.key) (IsGroupIn s.table.schema s.table.keys) (s.table.groups ++ added) (all_append (IsGroupIn s.table.schema s.table.keys) s.table.groups added v.each brought.each);
        in_order = subst (λ ks. AreInTableOrder ks) (same_keys disk s.table.keys s.table.schema counter files grown.groups stored) files_ordered;
        distinct = subst (λ (ns : List ℕ). AreDistinct ns) (same_numbers disk s.table.keys s.table.schema counter files grown.groups stored) files_distinct;
        below = all_order (λ (g : Group). g.key) (λ (g : Group). g.number < next) (s.table.groups ++ added) (all_append (λ (g : Group). g.number < next) s.table.groups added
            (all_so (λ (g : Group). g.number < s.table.next) (λ (g : Group). g.number < next) (λ g l. let m = brought.never_falls in omega (arith, l, m)) s.table.groups v.below)
            (numbers_too disk s.table.keys s.table.schema counter (λ n. n < next) come added brought.stored brought.below));
      }

  described : IsDescription (with_version old_root files next)
  described =
      let d = here.means.described in
      let same : IsGroup s.table.keys (without_keys s.table.keys s.table.schema) ≡ IsGroup old_root.keys (stored_of old_root) =
      ap (λ ks. IsGroup ks (without_keys ks s.table.schema)) (sym wrote.shows.keys) ∙ ap (λ fs. IsGroup old_root.keys (without_keys old_root.keys fs)) (sym wrote.shows.schema) in
      record {
        schema = d.schema;
        within = d.within;
        keys = d.keys;
        stored = d.stored;
        fits = let a = wrote.shows.counted in let b = brought.covered in omega (arith, a, b);
        each = all_order (λ (g : FileGroup). g.key) (IsGroup old_root.keys (stored_of old_root)) (old_root.groups ++ come) (all_append (IsGroup old_root.keys (stored_of old_root)) old_root.groups come d.each (subst (λ P. AllByRecursion P come) same brought.described));
        in_order = files_ordered;
        distinct = files_distinct;
        below = all_order (λ (g : FileGroup). g.key) (λ (g : FileGroup). g.number < next) (old_root.groups ++ come) (all_append (λ (g : FileGroup). g.number < next) old_root.groups come
            (all_so (λ (g : FileGroup). g.number < old_root.next) (λ (g : FileGroup). g.number < next) (λ g l. let m = brought.never_falls in let n = here.next in omega (arith, l, m, n)) old_root.groups d.below)
            brought.below);
      }

  version_told : is_version files ≡ true
  version_told = and_from _ _ (distinct_test (numbers_of files) files_distinct) (order_test (keys_of files) files_ordered)

  no_sources : sources_of (state_of mid.snapshots) (Some n) ≡ []
  no_sources = ap sources_in brought.pinned ∙ brought.free

  taken : fault_of (state_of mid.snapshots) (committed files (Some n)) ≡ None
  taken =
      let current = (state_of mid.snapshots).current in
      ap (λ (b : Bool). first_of (unless_so b NoJob ∷ unless_so (has_groups current (sources_of (state_of mid.snapshots) (Some n))) Stale ∷ unless_so (is_version files) Page ∷ [])) (found_open n (state_of mid.snapshots).jobs brought.pins brought.pinned)
      ∙ ap (λ (ns : List ℕ). first_of (None ∷ unless_so (has_groups current ns) Stale ∷ unless_so (is_version files) Page ∷ [])) no_sources
      ∙ ap (λ (b : Bool). first_of (unless_so b Page ∷ [])) version_told

  pub planned : IsPlanned disk mid (counted s counter) grown (ended_at n s.jobs) (Some n) (with_version old_root files next)
  planned = record {
    valid = is_table;
    keys = refl;
    schema_is = wrote.shows.schema;
    keys_are = wrote.shows.keys;
    next_is = refl;
    covers = brought.covered;
    stored = stored;
    described = described;
    unrefused = taken;
    jobs_are = brought.left;
  }

  -- it brings groups
  more_groups : grown.groups ≡ s.table.groups → ⊥
  more_groups e =
      let a = length_order (λ (g : Group). g.key) (s.table.groups ++ added) in
      let b = length-append s.table.groups added in
      let c = ap (λ (gs : List Group). length gs) e in
      none (length added) refl (omega (arith, a, b, c))
    where
      none : (m : ℕ) → length added ≡ m → m ≡ 0 → ⊥
      none m is zero = brought.some (nil_from_length added (is ∙ zero))

  pub leads : Leads s (commit n) (length staged) grown counter
  leads = record {
    made = appended staged;
    asked = (appending staged, brought.is_open, refl);
    step = record {
      schema = refl;
      keys = refl;
      change = (
        record { added = added; placed = refl; hold = brought.hold; full = brought.full; fresh = all_fresh s.had added (numbers_too disk s.table.keys s.table.schema counter (λ m. s.had m ≡ false) come added brought.stored brought.fresh) },
        refl,
      );
      table = is_table;
      never_falls = brought.never_falls;
      same = λ of_groups same. absurd (more_groups same);
    };
    rises = brought.rises;
    covers = brought.covered;
  }

  other : grown ≢ s.table
  other same = more_groups (ap (λ (t : Table). t.groups) same)

  pub asks : fault s (commit n) ≡ None → AsksCommit s (commit n) (length staged) grown counter
  asks fine = record {
    leads = leads;
    unrefused = fine;
    other = other;
    on = ap not is_open;
    memory = refl;
    disk = refl;
    does = λ new is. (fine, is);
    stays = λ more rises. record { counter = more; rises = rises; is = refl };
  }

  pub over : IsRootTooHeavy (with_version old_root files next) → IsOver s (commit n)
  over heavy = over_root (length staged) grown counter leads other (too_heavy_is_too_much disk counter grown (with_version old_root files next) wrote.shows.schema wrote.shows.keys stored described heavy)

pub staged_are_ready : {D : Type 0} (state : D → DiskState) → StagedAreReady state
staged_are_ready state old mid s counter n staged come added next stands is_open wrote brought ordered parted = record {
  planned = planned state old mid s counter stands is_open wrote n staged come added next brought ordered parted;
  asks = asks state old mid s counter stands is_open wrote n staged come added next brought ordered parted;
  over = over state old mid s counter stands is_open wrote n staged come added next brought ordered parted;
}
