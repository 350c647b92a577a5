-- Where a store stands after a part file was to be written.
use Rattle.std.proofs.Common.{◌≡◌, ◌<◌, ◌+◌, ◌-◌, ◌^◌, ℕ, Bool, true, false, ◌||◌, ◌==◌, if◌then◌else◌, List, [], ◌∷◌, Option, Some, Result, Ok, Err, refl, sym, ◌∙◌, ap, subst, arith, inr, ⊎_elim}
use Rattle.std.specs.Prelude.{None, string_bytes}
use Rattle.std.specs.Rc.{rc_value}
use Rattle.std.specs.declared.rc.Rc.{Rc}
use Rattle.std.specs.declared.alloc.Global.{Global}
use Rattle.std.proofs.lemmas.Bool.{eqb-true, or_cases as either}
use Rattle.lists.proofs.Booleans.{and_first as both}
use Rattle.bits.specs.declared.refusal.Refusal.{Refusal}
use Rattle.bits.specs.declared.refusal.Refusal.TheVariants.{Device}
use Rattle.bits.specs.Refusals.{HasCause}
use Rattle.schema.specs.Shape.{Fields}
use Rattle.schema.specs.Keys.{KeyColumn}
use Rattle.disk.specs.State.{State as DiskState}
use Rattle.vault.specs.declared.vault.Vault.{Vault}
use Rattle.vault.specs.Views.{AllBut, ReadsAs, IsKept}
use Rattle.vault.specs.Ways.{CanPut}
use Rattle.vault.specs.Calls.{Puts}
use Rattle.partition.specs.Folders.{CanPartition, part_path_of}
use Rattle.manifest.specs.declared.group.Group.{Group as CodeGroup}
use Rattle.manifest.specs.Groups.{Group as FileGroup, group_view, root_of}
use Rattle.snapshots.specs.declared.state.Snapshots.{Snapshots}
use Rattle.snapshots.specs.State.{State as Versions, File, Pins, file_of, is_among, is_same, is_open, job_is_open, jobs_with, open_at, staged, after, with_file}
use Rattle.snapshots.specs.Views.{state_of}
use Rattle.table.specs.Table.{Row, Key}
use Rattle.table.specs.State.{State}
use Rattle.table_state.specs.declared.standing.Core.{Core}
use Rattle.table_commits.specs.declared.part.Part.{Part}
use Rattle.table_state.specs.Paths.{IsPartPath, IsOlder}
use Rattle.table_state.specs.Spares.{Spares}
use Rattle.table_state.specs.Stands.{AreFilesBelow, AreTracked, ShowsOpen, Shows, numbers_at}
use Rattle.table_commits.specs.Writing.{HoldsMore, HoldMore, IsHeldFor, IsSameUse, IsPartFor, Writes}
use Rattle.table_commits.proofs.SparedDisks.{spares_here, put_spares, older_not_part}
use Rattle.table_commits.proofs.FilesInUse.{same_itself}
use Rattle.table_commits.proofs.TrackedFiles.{tracked_as, tracked_after_put}
use Rattle.table_commits.proofs.StoredStays.{holds_same, hold_same}
use Rattle.table_commits.proofs.StateCarriedOver.{root_is_older, file_is_older, carried}

pub same_use : (a b : Versions) → b ≡ a → IsSameUse a b
same_use a b e = record {
  current = ap (λ (v : Versions). v.current) e;
  cursors = ap (λ (v : Versions). v.cursors) e;
  numbers = ap (λ (v : Versions). numbers_at v.jobs) e;
  jobs = hold_same a.jobs b.jobs (ap (λ (v : Versions). v.jobs) e);
}

-- ---- a file is staged

-- it is held besides what its job held
module _ (n : ℕ) (f : File) where
  abbrev marked : ℕ × Pins → ℕ × Pins
  marked x = if x.0 == n then with_file f x else x

  right : (a b : Bool) → b ≡ true → (a || b) ≡ true
  right true b e = refl
  right false b e = e

  same_number : (x : ℕ × Pins) → (marked x).0 ≡ x.0
  same_number x = by (x.0 == n)
    where
      by : (b : Bool) → (if b then with_file f x else x).0 ≡ x.0
      by true = refl
      by false = refl

  more_held : (x : ℕ × Pins) → HoldsMore x.1 (marked x).1
  more_held x = by (x.0 == n)
    where
      by : (b : Bool) → HoldsMore x.1 (if b then with_file f x else x).1
      by true = record { version = refl; sources = refl; files = λ g h. right (is_same f g) (is_among x.1.files g) h }
      by false = holds_same x.1

  pub stage_numbers : (xs : List (ℕ × Pins)) → numbers_at (jobs_with (Some n) f xs) ≡ numbers_at xs
  stage_numbers [] = refl
  stage_numbers (x ∷ xs) = ap (λ (m : ℕ). m ∷ numbers_at (jobs_with (Some n) f xs)) (same_number x) ∙ ap (λ (ns : List ℕ). x.0 ∷ ns) (stage_numbers xs)

  pub stage_holds : (xs : List (ℕ × Pins)) → HoldMore xs (jobs_with (Some n) f xs)
  stage_holds [] k pins is = absurd (cc)
  stage_holds (x ∷ xs) k pins is =
      subst (λ (m : ℕ). (more : Pins) × ((if m == k then Some (marked x).1 else open_at k (jobs_with (Some n) f xs)) ≡ Some more) × HoldsMore pins more) (sym (same_number x))
      (by (x.0 == k) (stage_holds xs k pins) is)
    where
      by : (c : Bool) → (open_at k xs ≡ Some pins → (more : Pins) × (open_at k (jobs_with (Some n) f xs) ≡ Some more) × HoldsMore pins more) → (if c then Some x.1 else open_at k xs) ≡ Some pins
          → (more : Pins) × ((if c then Some (marked x).1 else open_at k (jobs_with (Some n) f xs)) ≡ Some more) × HoldsMore pins more
      by true rest e = let same : x.1 ≡ pins = cc in ((marked x).1, refl, subst (λ (p : Pins). HoldsMore p (marked x).1) same (more_held x))
      by false rest e = rest e

  pub stage_held : (xs : List (ℕ × Pins)) → is_open n xs ≡ true → (pins : Pins) × (open_at n (jobs_with (Some n) f xs) ≡ Some pins) × (is_among pins.files f ≡ true)
  stage_held [] e = absurd (cc)
  stage_held (x ∷ xs) e =
      subst (λ (m : ℕ). (pins : Pins) × ((if m == n then Some (marked x).1 else open_at n (jobs_with (Some n) f xs)) ≡ Some pins) × (is_among pins.files f ≡ true)) (sym (same_number x))
      (by (x.0 == n) (stage_held xs) e)
    where
      by : (b : Bool) → (is_open n xs ≡ true → (pins : Pins) × (open_at n (jobs_with (Some n) f xs) ≡ Some pins) × (is_among pins.files f ≡ true)) → (b || is_open n xs) ≡ true
          → (pins : Pins) × ((if b then Some (if b then with_file f x else x).1 else open_at n (jobs_with (Some n) f xs)) ≡ Some pins) × (is_among pins.files f ≡ true)
      by true rest h = ((with_file f x).1, refl, ap (λ (c : Bool). c || is_among x.1.files f) (same_itself f))
      by false rest h = rest h

-- what is in use is the same after it
pub staged_use : (job : Option ℕ) (f : File) (a b : Versions) → b ≡ after a (staged job f) → IsSameUse a b
staged_use None f a b e = record {
  current = ap (λ (v : Versions). v.current) e;
  cursors = ap (λ (v : Versions). v.cursors) e;
  numbers = ap (λ (v : Versions). numbers_at v.jobs) e;
  jobs = hold_same a.jobs b.jobs (ap (λ (v : Versions). v.jobs) e);
}
staged_use (Some n) f a b e = record {
  current = ap (λ (v : Versions). v.current) e;
  cursors = ap (λ (v : Versions). v.cursors) e;
  numbers = ap (λ (v : Versions). numbers_at v.jobs) e ∙ stage_numbers n f a.jobs;
  jobs = subst (λ (js : List (ℕ × Pins)). HoldMore a.jobs js) (sym (ap (λ (v : Versions). v.jobs) e)) (stage_holds n f a.jobs);
}

pub staged_for : (job : Option ℕ) (g : FileGroup) (a b : Versions) → b ≡ after a (staged job (file_of g)) → job_is_open a job ≡ true → IsHeldFor job b g
staged_for None g a b e o = tt
staged_for (Some n) g a b e o =
    let h = stage_held n (file_of g) a.jobs o in
    (h.0, ap (λ (v : Versions). open_at n v.jobs) e ∙ h.1, h.2)

files_here : (count : ℕ) (a b : Versions) → b ≡ a → AreFilesBelow count a → AreFilesBelow count b
files_here count a b e below f there = below f (sym (ap (λ (v : Versions). v.files f) e) ∙ there)

abbrev pub failed : (T : Type 0) → Refusal → Result T Refusal
failed T e = Err e

-- the cause of a refusal that is not out of memory
pub cause_at : (P : Type 0) (f e : Refusal) → (HasCause (λ _. P) f → P) → HasCause (λ _. P) e → e ≡ f → P
cause_at P f e told cause is = told (subst (λ (x : Refusal). HasCause (λ _. P) x) is cause)

-- the same of what the store keeps and of what its state has
pub part_for : (ks ls : List KeyColumn) (fs gs : Fields) (n m : ℕ) (key : Key) (rows : List Row) (part : Part) → ks ≡ ls → fs ≡ gs → n ≡ m → IsPartFor ks fs n key rows part → IsPartFor ls gs m key rows part
part_for ks ls fs gs n m key rows part e f h is =
    subst (λ (x : ℕ). IsPartFor ls gs x key rows part) h (subst (λ (x : Fields). IsPartFor ls x n key rows part) f (subst (λ (x : List KeyColumn). IsPartFor x fs n key rows part) e is))

module _ {D : Type 0} (state : D → DiskState) (store : Core D) (s : State) (job : Option ℕ) (key : Key) (rows : List Row) (shows : Shows state store s) (is_open : s.closed ≡ false) where
  abbrev disk : DiskState
  disk = state store.vault.disk

  abbrev keys : List KeyColumn
  keys = s.table.keys

  shown : ShowsOpen disk store s
  shown = shows.shown is_open

  count_is : store.next_group ≡ s.next_group
  count_is = shows.next_group

  -- nothing was written, and nothing changed
  pub nothing_written : (snapshots : Snapshots) → state_of snapshots ≡ state_of store.snapshots → (e : Refusal) → (e ≡ Device → ⊥) → Writes state store (record store { snapshots = snapshots }) job key rows (Err e) s
  nothing_written snapshots same e other = record {
    no_less = omega arith;
    no_more = omega arith;
    keeps = refl;
    spares = spares_here keys (IsOlder keys s.next_group) disk;
    shows = carried state store s shows is_open store.vault snapshots store.next_group (omega (arith, count_is)) (let l = shows.counted in omega (arith, l, count_is)) (IsOlder keys s.next_group) (root_is_older state store s shows) (λ f low held. file_is_older state store s shows f low) (spares_here keys (IsOlder keys s.next_group) disk)
        (same_use (state_of store.snapshots) (state_of snapshots) same)
        (files_here store.next_group (state_of store.snapshots) (state_of snapshots) same (λ f there. let l = shown.files f there in omega (arith, l, count_is)))
        store.clean (λ clean. tracked_as disk (root_of store.manifest).keys (state_of store.snapshots) (state_of snapshots) (ap (λ (v : Versions). v.files) same) (shown.tracked clean));
    in_use = same_use (state_of store.snapshots) (state_of snapshots) same;
    stored = tt;
    described = tt;
    held = tt;
    cause = λ is. absurd (other is);
  }

  -- the file is tracked, and the disk was asked to put it
  module _ (part : Part) (ready : IsPartFor keys s.table.schema s.next_group key rows part) (counter : store.next_group < 2 ^ 64 - 1) where
    abbrev count : ℕ
    count = store.next_group + 1

    abbrev part_path : IsPartPath keys (string_bytes part.path)
    part_path = record { key = key; number = s.next_group; can = ready.can; fits = shows.counted; is = ready.path_is }

    pub can_put : disk.honest → CanPut disk (string_bytes part.path)
    can_put honest = (honest, shows.room (string_bytes part.path) (inr (inr part_path)))

    module _ (tracked : Rc CodeGroup Global) (number_is : (group_view (rc_value tracked)).number ≡ s.next_group) (key_is : (group_view (rc_value tracked)).key ≡ key) (snapshots : Snapshots)
        (stepped : state_of snapshots ≡ after (state_of store.snapshots) (staged job (file_of (group_view (rc_value tracked))))) where
      use_here : IsSameUse (state_of store.snapshots) (state_of snapshots)
      use_here = staged_use job (file_of (group_view (rc_value tracked))) (state_of store.snapshots) (state_of snapshots) stepped

      files_below : AreFilesBelow count (state_of snapshots)
      files_below f there = ⊎_elim
          (λ is.
          let e : (group_view (rc_value tracked)).number ≡ f.number = eqb-true (group_view (rc_value tracked)).number f.number (both ((group_view (rc_value tracked)).number == f.number) _ is) in
          omega (arith, e, number_is, count_is))
          (λ was. let l = shown.files f was in omega (arith, l, count_is))
          (either (is_same (file_of (group_view (rc_value tracked))) f) ((state_of store.snapshots).files f) (sym (ap (λ (v : Versions). v.files f) stepped) ∙ there))

      module _ (vault : Vault D) where
        puts_spare : {T : Type 0} (bytes : List ℕ) (result : Result T Refusal) → Puts (string_bytes part.path) bytes disk (state vault.disk) result → Spares keys (IsOlder keys s.next_group) disk (state vault.disk)
        puts_spare bytes result puts = put_spares keys shows.apart (IsOlder keys s.next_group) (string_bytes part.path) bytes disk (state vault.disk) result part_path
            (older_not_part keys shows.apart s.next_group (string_bytes part.path) part_path (omega arith)) puts

        file_is : file_of (group_view (rc_value tracked)) ≡ record { number = s.next_group; key = key }
        file_is = cc (number_is, key_is)

        -- the file was staged before it was put
        tracked_now : ReadsAs (AllBut (string_bytes part.path)) disk (state vault.disk) → store.clean ≡ true → AreTracked (state vault.disk) (root_of store.manifest).keys (state_of snapshots)
        tracked_now seen clean =
            subst (λ (ks : List KeyColumn). AreTracked (state vault.disk) ks (state_of snapshots)) (sym shows.keys)
            (tracked_after_put keys (state_of store.snapshots) shows.apart key s.next_group ready.can shows.counted (state_of snapshots) job
            (stepped ∙ ap (λ (f : File). after (state_of store.snapshots) (staged job f)) file_is) disk (state vault.disk)
            (subst (λ (p : List ℕ). ReadsAs (AllBut p) disk (state vault.disk)) ready.path_is seen)
            (subst (λ (ks : List KeyColumn). AreTracked disk ks (state_of store.snapshots)) shows.keys (shown.tracked clean)))

        shows_after : Spares keys (IsOlder keys s.next_group) disk (state vault.disk) → ReadsAs (AllBut (string_bytes part.path)) disk (state vault.disk)
            → Shows state (record store { vault = vault; snapshots = snapshots; next_group = count }) (record s { next_group = count })
        shows_after spares seen = carried state store s shows is_open vault snapshots count (omega (arith, count_is)) (omega (arith, counter)) (IsOlder keys s.next_group) (root_is_older state store s shows) (λ f low held. file_is_older state store s shows f low) spares use_here files_below
            store.clean (tracked_now seen)

        pub put_refused : {T : Type 0} (bytes : List ℕ) (e : Refusal) → Puts (string_bytes part.path) bytes disk (state vault.disk) (failed T e)
            → Writes state store (record store { vault = vault; snapshots = snapshots; next_group = count }) job key rows (Err e) s
        put_refused bytes e puts = let spares = puts_spare bytes (failed _ e) puts in record {
          no_less = omega arith;
          no_more = omega arith;
          keeps = refl;
          spares = spares;
          shows = shows_after spares puts.seen;
          in_use = use_here;
          stored = tt;
          described = tt;
          held = tt;
          cause = cause_at _ Device e (λ h. h) puts.cause;
        }

        pub put_done : {T : Type 0} (x : T) → job_is_open (state_of store.snapshots) job ≡ true → group_view (rc_value tracked) ≡ group_view (rc_value part.group) → (puts : Puts (string_bytes part.path) part.bytes.items disk (state vault.disk) (Ok x))
            → Writes state store (record store { vault = vault; snapshots = snapshots; next_group = count }) job key rows (Ok part.group) s
        put_done x there same puts = let spares = puts_spare part.bytes.items (Ok x) puts in record {
          no_less = omega arith;
          no_more = omega arith;
          keeps = refl;
          spares = spares;
          shows = shows_after spares puts.seen;
          in_use = use_here;
          described = ready.described;
          held = subst (λ (g : FileGroup). IsHeldFor job (state_of snapshots) g) same (staged_for job (group_view (rc_value tracked)) (state_of store.snapshots) (state_of snapshots) stepped there);
          stored = record {
            number = sym ready.number_is;
            key = sym ready.key_is;
            can = subst (λ (k : Key). CanPartition keys k) (sym ready.key_is) ready.can;
            below = let e = ready.number_is in omega (arith, e, count_is);
            bytes = part.bytes.items;
            kept = subst (λ (p : List ℕ). IsKept (state vault.disk) p part.bytes.items) (ready.path_is ∙ ap (λ (k : Key). part_path_of keys k s.next_group) (sym ready.key_is) ∙ ap (λ (n : ℕ). part_path_of keys (group_view (rc_value part.group)).key n) (sym ready.number_is)) puts.kept;
            means = ready.means;
          };
          cause = tt;
        }
