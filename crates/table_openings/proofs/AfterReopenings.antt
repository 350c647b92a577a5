-- Where a store stands after it was opened anew, or was to be.
use Rattle.std.proofs.Common.{◌≡◌, ◌≤◌, ◌⊎◌, ℕ, Bool, true, false, List, Result, Ok, Err, refl, sym, ◌∙◌, ap, subst, arith, inl, inr, ⊎_elim}
use Rattle.std.specs.Prelude.{OnOk, OnErr}
use Rattle.bits.specs.declared.refusal.Refusal.{Refusal}
use Rattle.bits.specs.declared.refusal.Refusal.TheVariants.{Device, Memory}
use Rattle.bits.specs.Refusals.{HasCause, RefusedMemoryOnly}
use Rattle.schema.specs.Keys.{KeyColumn}
use Rattle.disk.specs.State.{Image, State as DiskState, content, may_leave}
use Rattle.vault.specs.declared.vault.Vault.{Vault}
use Rattle.vault.specs.Views.{View, LeavesAfter}
use Rattle.vault.specs.Ways.{LeavesWays}
use Rattle.vault.specs.Calls.{LeavesAll}
use Rattle.manifest.specs.declared.description.Manifest.{Manifest}
use Rattle.manifest.specs.Groups.{root_of}
use Rattle.manifest.specs.Table.{IsTableOf}
use Rattle.manifest.specs.Laws.{TablesAreOne, RowsOfPartsFit}
use Rattle.recovery.specs.Sound.{IsSound, SameTable, IsDescribed}
use Rattle.recovery.specs.Opening.{IsClean}
use Rattle.table.specs.Table.{Table}
use Rattle.table.specs.State.{State, opened}
use Rattle.table.specs.Calls.{reopen, accepted, refused}
use Rattle.table.specs.Refusing.{Happens, no_memory, failed, is_failure}
use Rattle.table.specs.Stops.{MayHold}
use Rattle.table.specs.Views.{answered}
use Rattle.table_state.specs.declared.standing.Core.{Core}
use Rattle.table_state.specs.OnDisk.{HoldsTable}
use Rattle.table_state.specs.Spares.{HasRoom}
use Rattle.table_state.specs.Stands.{Shows, Stands}
use Rattle.table_state.specs.Promises.{IsOlderFile, ActsFrom}
use Rattle.table_state.specs.Starting.{IsStarted}
use Rattle.table_commits.proofs.StateCarriedOver.{past_of}
use Rattle.table_commits.proofs.OneCallMore.{reached_on}
use Rattle.table_commits.proofs.OlderFiles.{kept_read}
use Rattle.table_commits.specs.Cleaning.{IsTidy}
use Rattle.table_commits.proofs.NeededFiles.{clean_is_tidy}
use Rattle.table_openings.proofs.StartedStores as started
use Rattle.table_openings.proofs.TablesInDoubt.{keys_in_doubt}

-- what a place had room for, it has
pub room_left : (old new : DiskState) (Change : View → View → Type 0) → LeavesAfter Change old new → LeavesWays old new → (keys : List KeyColumn) → HasRoom keys old → HasRoom keys new
room_left old new Change moments clear keys room path place c may = clear path (room path place) new.moment c moments.later (omega arith) may

pub memory_only : (e : Refusal) → HasCause (λ _. ⊥) e → e ≡ Memory
memory_only Memory h = refl
memory_only e h = absurd h

-- of the two refusals, the one that tells of a failed disk
pub told_failure : (e : Refusal) → (e ≡ Device) ⊎ (e ≡ Memory) → is_failure (refused e) ≡ true → e ≡ Device
told_failure e (inl is) told = is
told_failure e (inr is) told = absurd (let f : false ≡ true = subst (λ (x : Refusal). is_failure (refused x) ≡ true) is told in cc)

pub no_failure : (e : Refusal) → HasCause (λ _. ⊥) e → is_failure (refused e) ≡ true → ⊥
no_failure e cause told = let f : false ≡ true = subst (λ (x : Refusal). is_failure (refused x) ≡ true) (memory_only e cause) told in cc

module _ {D : Type 0} (state : D → DiskState) (old : Core D) (s : State) (stands : Stands state old s) (vault : Vault D)
    (moments : LeavesAfter SameTable (state old.vault.disk) (state vault.disk)) (sound : IsSound (state vault.disk)) (clear : LeavesWays (state old.vault.disk) (state vault.disk))
    (left : old.keeps ≡ true → LeavesAll (state old.vault.disk) (state vault.disk)) where
  abbrev before : DiskState
  before = state old.vault.disk

  abbrev disk : DiskState
  disk = state vault.disk

  abbrev shown : Shows state old s
  shown = stands.shows

  -- the table that may be there has the same key columns
  keys_of : (t : Table) → MayHold s t → t.keys ≡ s.table.keys
  keys_of t may = ⊎_elim (λ is. ap (λ (x : Table). x.keys) is) (λ doubt. keys_in_doubt s stands.reached t doubt) may

  -- at each moment there is a table that may have been there
  holds_at : (m : ℕ) (c : Image) → before.moment ≤ m → m ≤ disk.moment → disk.images m c → (t : Table) × HoldsTable c t × MayHold s t
  holds_at m c lo hi at =
      let was = moments.each m c lo hi at in
      let h = shown.sound.tables was.0 was.1 in
      let room = subst (λ (ks : List KeyColumn). HasRoom ks before) (sym (keys_of h.table h.allowed)) shown.room in
      (h.table, record { files = was.2 h.table h.held.files; room = λ path place. clear path (room path place) m c lo hi at }, h.allowed)

  holds_now : (c : Image) → may_leave disk c → (t : Table) × HoldsTable c t × MayHold s t
  holds_now c may = holds_at disk.moment c moments.later (omega arith) may

  -- ---- it is refused: the store is closed

  abbrev shut : State
  shut = record s { closed = true }

  closed_now : Shows state (record old { vault = vault; closed = true }) shut
  closed_now = record {
    valid = shown.valid;
    apart = shown.apart;
    one_root = shown.one_root;
    options = shown.options;
    in_range = shown.in_range;
    schema = shown.schema;
    keys = shown.keys;
    next_job = shown.next_job;
    next_cursor = shown.next_cursor;
    next_group = shown.next_group;
    counted = shown.counted;
    closed = refl;
    room = room_left before disk SameTable moments clear s.table.keys shown.room;
    sound = record { tables = λ c may. let h = holds_now c may in record { table = h.0; held = h.1; allowed = h.2 }; sound = sound };
    shown = λ o. absurd (cc);
  }

  happens_shut : (e : Refusal) → (e ≡ Device) ⊎ (e ≡ Memory) → Happens s reopen (refused e) shut
  happens_shut e why = ⊎_elim (λ is. failed is refl refl refl) (λ is. no_memory is refl refl refl) why

  pub refused_so : (e : Refusal) → (e ≡ Device) ⊎ (e ≡ Memory) → ActsFrom state old (record old { vault = vault; closed = true }) reopen (refused e) s
  refused_so e why = record {
    after = shut;
    happens = happens_shut e why;
    survives = record {
      later = moments.later;
      each = λ m c lo hi at. let h = holds_at m c lo hi at in (h.0, h.1, inl h.2);
      ended = holds_now;
    };
    stands = record { reached = reached_on s stands.reached reopen (refused e) shut (happens_shut e why); shows = closed_now };
    past = past_of before disk moments;
    doubt = λ is. ⊎_elim (λ a. absurd (cc)) (λ b. absurd (cc)) why;
    kept = λ keeps. kept_read state old (record old { vault = vault; closed = true }) (IsOlderFile s) keeps (left keeps);
  }

  -- ---- it is done: nothing is open, and the store has one of the two tables

  module _ (new : Core D) (is : IsStarted old.options new) (there : new.vault ≡ vault) (described : IsDescribed disk (root_of new.manifest)) (seen_may : may_leave disk disk.seen)
      (one_table : TablesAreOne) (fit : RowsOfPartsFit) (cleaned : new.clean ≡ true → IsClean (root_of new.manifest) disk) (same_keeps : new.keeps ≡ old.keeps) where
    abbrev seen_holds : (t : Table) × HoldsTable disk.seen t × MayHold s t
    seen_holds = holds_now disk.seen seen_may

    abbrev table : Table
    table = seen_holds.0

    is_described : table ≡ described.table
    is_described = one_table (content disk.seen) table described.table seen_holds.1.files (root_of new.manifest, described.each disk.seen seen_may)

    each : (c : Image) → may_leave disk c → IsTableOf (content c) (root_of new.manifest) table
    each c may = subst (λ (x : Table). IsTableOf (content c) (root_of new.manifest) x) (sym is_described) (described.each c may)

    same_keys : table.keys ≡ s.table.keys
    same_keys = keys_of table seen_holds.2

    room : HasRoom table.keys disk
    room = subst (λ (ks : List KeyColumn). HasRoom ks disk) (sym same_keys) (room_left before disk SameTable moments clear s.table.keys shown.room)

    abbrev next : State
    next = opened old.options table

    stands_now : Stands state (record new { vault = vault }) next
    stands_now = started.stands state (record new { vault = vault }) old.options
        (record { options = is.options; versions = is.versions; jobs = is.jobs; cursors = is.cursors; next_job = is.next_job; next_cursor = is.next_cursor; next_group = is.next_group; closed = is.closed })
        table each described.root_kept.0 described.root_kept.1 described.parts_kept seen_may fit shown.apart shown.one_root shown.in_range sound room cleaned

    pub done_so : ActsFrom state old new reopen accepted s
    done_so = subst (λ (v : Vault D). ActsFrom state old (record new { vault = v }) reopen accepted s) (sym there) (record {
      after = next;
      happens = (refl, (table, seen_holds.2, refl, subst (λ (o : _). opened old.options table ≡ opened o table) shown.options refl));
      survives = record {
        later = moments.later;
        each = λ m c lo hi at. let h = holds_at m c lo hi at in (h.0, h.1, inl h.2);
        ended = λ c may. (table, record { files = (root_of new.manifest, each c may); room = λ path place. room path place c may }, inl refl);
      };
      stands = stands_now;
      past = past_of before disk moments;
      doubt = λ is. absurd (cc);
      kept = λ keeps. kept_read state old (record new { vault = vault }) (IsOlderFile s) (same_keeps ∙ keeps) (left keeps);
    })

  -- ---- either

  -- the store says that the table is clean only where it is
  cleaned_so : (manifest : Manifest) (clean : Bool) (new : Core D) → new.manifest ≡ manifest → new.clean ≡ clean → (clean ≡ true → IsClean (root_of manifest) disk) → new.clean ≡ true → IsClean (root_of new.manifest) disk
  cleaned_so manifest clean new same told is e = subst (λ (m : Manifest). IsClean (root_of m) disk) (sym same) (is (sym told ∙ e))

  pub anew : (manifest : Manifest) (clean : Bool) → (clean ≡ true → IsClean (root_of manifest) disk) → IsDescribed disk (root_of manifest) → may_leave disk disk.seen → TablesAreOne → RowsOfPartsFit → (result : Result (Unit {0}) Refusal) (new : Core D) → OnOk result (IsStarted old.options new) → new.vault ≡ vault
      → OnOk result (new.manifest ≡ manifest) → OnOk result (new.clean ≡ clean) → new.keeps ≡ old.keeps → OnErr result (new ≡ record old { vault = vault; closed = true }) → RefusedMemoryOnly result → ActsFrom state old new reopen (answered {T = Unit {0}} (λ _. accepted) result) s
  anew manifest clean cleaned described seen_may one_table fit (Ok x) new is there same told keeps_is unchanged which =
      done_so new is there (subst (λ (m : Manifest). IsDescribed disk (root_of m)) (sym same) described) seen_may one_table fit (cleaned_so manifest clean new same told cleaned) keeps_is
  anew manifest clean cleaned described seen_may one_table fit (Err e) new is there same told keeps_is unchanged which =
      subst (λ (st : Core D). ActsFrom state old st reopen (refused e) s) (sym unchanged) (refused_so e (inr (memory_only e which)))

  -- no file is left that nothing needs
  pub tidy_anew : (manifest : Manifest) (clean : Bool) → (clean ≡ true → IsClean (root_of manifest) disk) → (result : Result (Unit {0}) Refusal) (new : Core D) → OnOk result (IsStarted old.options new) → new.vault ≡ vault
      → OnOk result (new.manifest ≡ manifest) → OnOk result (new.clean ≡ clean) → ActsFrom state old new reopen (answered {T = Unit {0}} (λ _. accepted) result) s → OnOk result (IsTidy state new)
  tidy_anew manifest clean cleaned (Ok x) new is there same told acts = λ e.
      clean_is_tidy state new acts.after acts.stands.shows (sym acts.stands.shows.closed ∙ is.closed)
      (subst (λ (v : Vault D). IsClean (root_of new.manifest) (state v.disk)) (sym there) (cleaned_so manifest clean new same told cleaned e))
  tidy_anew manifest clean cleaned (Err e) new is there same told acts = tt
