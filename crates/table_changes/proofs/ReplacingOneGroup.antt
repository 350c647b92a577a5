-- A removal, from group to group: what is read, and what is written of it.
use Rattle.std.proofs.Common.{◌≡◌, ◌≤◌, ◌+◌, ◌⊎◌, ℕ, true, false, List, [], ◌∷◌, ◌++◌, map, length, Option, None, Result, Ok, Err, refl, sym, ◌∙◌, ap, subst, arith, ⊎_elim, append-nil as nothing_more}
use Rattle.std.specs.Prelude.{OnOk}
use Rattle.std.proofs.lemmas.List.{nil_from_length}
use Rattle.std.specs.Rc.{rc_value}
use Rattle.std.specs.declared.rc.Rc.{Rc}
use Rattle.std.specs.declared.alloc.Global.{Global}
use Rattle.bits.specs.declared.refusal.Refusal.{Refusal}
use Rattle.bits.specs.declared.refusal.Refusal.TheVariants.{Limit, Device, Memory, NoJob, RowShape, Key as BadKey}
use Rattle.bits.specs.Refusals.{HasCause, RefusedMemoryOnly}
use Rattle.schema.specs.Shape.{Fields}
use Rattle.schema.specs.Fits.{RowsFit}
use Rattle.schema.specs.Keys.{KeyColumn, AreRowsOf, row_without_keys, without_keys}
use Rattle.schema.specs.Views.{key_view}
use Rattle.disk.specs.State.{State as DiskState}
use Rattle.vault.specs.declared.vault.Vault.{Vault}
use Rattle.vault.specs.Calls.{LeavesAll, HasFailed}
use Rattle.footer.specs.Writing.{IsOutOfRange, IsTooMuch}
use Rattle.footer.specs.declared.options.WriteOptions.{WriteOptions}
use Rattle.partition.specs.Folders.{CanPartition}
use Rattle.manifest.specs.declared.group.Group.{Group as CodeGroup}
use Rattle.manifest.specs.Groups.{Group as FileGroup, group_view, root_of}
use Rattle.manifest.specs.Root.{stored_of}
use Rattle.snapshots.specs.State.{State as Versions}
use Rattle.snapshots.specs.Views.{state_of}
use Rattle.planning.specs.Replaced.{changes_view}
use Rattle.table.specs.Table.{Row, Key, Group}
use Rattle.table.specs.State.{State}
use Rattle.table.specs.Limits.{IsFileTooMuch}
use Rattle.table_state.specs.declared.standing.Core.{Core}
use Rattle.table_changes.specs.declared.remaining.Remains.{Remains}
use Rattle.table_changes.specs.declared.removing.Removed.{Removed}
use Rattle.table_state.specs.Paths.{IsOlder}
use Rattle.table_commits.specs.Writing.{Writes, IsPartRefusal, counted}
use Rattle.table_commits.specs.Acting.{WroteTo}
use Rattle.table_state.specs.Buffers.{buffer}
use Rattle.table_commits.specs.Filling.{HasWritten, IsBuffer, written_group}
use Rattle.table_changes.specs.Removing.{Puts, WhyNotPut, goes, comes}
use Rattle.table_commits.proofs.WaitingRows.{same_length}
use Rattle.table_commits.proofs.OneFileMore.{failed_since as failed_on, wrote_so, one_more}
use Rattle.table_commits.proofs.SparedDisks.{read_spares, spares_on}
use Rattle.table_commits.proofs.StoredStays.{jobs_on, hold_same}
use Rattle.table_commits.proofs.AfterCleanings.{read_still}
use Rattle.table_reads.proofs.FetchesGoOn.{stored_left}
use Rattle.table_commits.proofs.RowsWithoutKeys.{stored_rows, stored_fit}

module _ {D : Type 0} (state : D → DiskState) (start now : Core D) (s : State) (is_open : s.closed ≡ false) where
  -- ---- what only reads leaves all that is written

  module _ (vault : Vault D) (leaves : LeavesAll (state now.vault.disk) (state vault.disk)) (later : (state now.vault.disk).failures ≤ (state vault.disk).failures) where
    abbrev read_store : Core D
    read_store = record now { vault = vault }

    abbrev versions : Versions
    versions = state_of now.snapshots

    pub wrote_read : (counter : ℕ) → WroteTo state start now s counter → WroteTo state start read_store s counter
    wrote_read counter w =
        let keys = s.table.keys in
        let old = state now.vault.disk in
        let new = state vault.disk in
        let spared = λ (Needed : List ℕ → Type 0). read_spares keys w.shows.apart Needed old new leaves in
        record {
          rises = w.rises;
          keeps = w.keeps;
          spares = spares_on keys (IsOlder keys s.next_group) (state start.vault.disk) old new w.spares (spared (IsOlder keys s.next_group));
          shows = (read_still state now (counted s counter) w.shows is_open vault leaves).shows;
          jobs = jobs_on keys s.table.schema s.next_group s.next_group s.options.group_rows (omega arith) s.had s.had (λ n low e. e) versions versions (λ q. Unit {0}) (λ f low held. tt) old new (spared (λ q. Unit {0}))
              (hold_same versions.jobs versions.jobs refl) now.jobs.items s.jobs w.jobs;
        }

    pub has_read : (job : Option ℕ) (files : List FileGroup) (groups : List Group) → HasWritten state start now s job files groups → HasWritten state start read_store s job files groups
    has_read job files groups h = record {
      wrote = wrote_read now.next_group h.wrote;
      no_less = let n = h.no_less in omega (arith, n, later);
      job_open = h.job_open;
      stored = stored_left (state now.vault.disk) (state vault.disk) leaves [] s.table.keys now.next_group s.table.schema files groups h.stored;
      held = h.held;
      described = h.described;
      above = h.above;
      distinct = h.distinct;
    }

  -- ---- why a file is not written

  pub why_not : (files : List FileGroup) (groups : List Group) (has : HasWritten state start now s None files groups) (new : Core D) (key : Key) (stored held : List Row) (b : IsBuffer s.table.schema s.table.keys (buffer key stored) (buffer key held))
      (e : Refusal) → HasCause (IsPartRefusal now None key stored) e → (e ≡ Device → HasFailed (state start.vault.disk) (state new.vault.disk)) → WhyNotPut state start new s held e
  why_not files groups has new key stored held b e cause failed = by e cause failed
    where
      same_fields : stored_of (root_of now.manifest) ≡ without_keys s.table.keys s.table.schema
      same_fields = ap (λ (ks : List KeyColumn). without_keys ks (root_of now.manifest).schema) has.wrote.shows.keys ∙ ap (λ (fs : Fields). without_keys s.table.keys fs) has.wrote.shows.schema

      held_is : stored ≡ map (row_without_keys s.table.keys) held
      held_is = stored_rows s.table.keys key stored held b.are

      too_much : IsOutOfRange now.options ⊎ IsTooMuch (stored_of (root_of now.manifest)) now.options stored → IsFileTooMuch s held
      too_much h = ⊎_elim (λ out. absurd (has.wrote.shows.in_range out))
          (λ much. subst (λ (o : WriteOptions). IsTooMuch (without_keys s.table.keys s.table.schema) o (map (row_without_keys s.table.keys) held)) has.wrote.shows.options
          (subst (λ (xs : List Row). IsTooMuch (without_keys s.table.keys s.table.schema) now.options xs) held_is (subst (λ (fs : Fields). IsTooMuch fs now.options stored) same_fields much)))
          h

      fit : RowsFit (stored_of (root_of now.manifest)) stored
      fit = subst (λ (fs : Fields). RowsFit fs stored) (sym same_fields) (subst (λ (xs : List Row). RowsFit (without_keys s.table.keys s.table.schema) xs) (sym held_is) (stored_fit s.table.keys s.table.schema key held b.rows_in))

      can : CanPartition (root_of now.manifest).keys key
      can = subst (λ (ks : List KeyColumn). CanPartition ks key) (sym has.wrote.shows.keys) b.can

      by : (f : Refusal) → HasCause (IsPartRefusal now None key stored) f → (f ≡ Device → HasFailed (state start.vault.disk) (state new.vault.disk)) → WhyNotPut state start new s held f
      by Device c d = d refl
      by Limit c d = too_much c
      by Memory c d = tt
      by NoJob c d = let h : true ≡ false = c in cc
      by RowShape c d = absurd (c fit)
      by BadKey c d = absurd (c can)
      by f c d = absurd c

-- ---- what is left of a group is written, and its change is kept

no_more_held : (keys : List KeyColumn) (key : Key) (held : List Row) → AreRowsOf keys key [] held → held ≡ []
no_more_held keys key [] h = refl
no_more_held keys key (row ∷ held) h = absurd h

module _ {D : Type 0} (state : D → DiskState) (start now : Core D) (s : State) (is_open : s.closed ≡ false) (files : List FileGroup) (groups : List Group) (has : HasWritten state start now s None files groups) (r : Remains) (stored held : List Row)
    (b : IsBuffer s.table.schema s.table.keys (buffer (key_view r.rest.key) stored) (buffer (key_view r.rest.key) held)) (before after : Removed) where
  -- what a kept change tells
  abbrev Kept : List FileGroup → Result (Unit {0}) Refusal → Type 0
  Kept come result = OnOk result (changes_view after.changes.items ≡ changes_view before.changes.items ++ record { number = r.number; come = come } ∷ []) × OnOk result (after.count ≡ before.count + r.gone) × RefusedMemoryOnly result

  abbrev Ends : Core D → Result (Unit {0}) Refusal → Type 0
  Ends new result = Puts state start now new s files groups held r before after result

  poor : (e : Refusal) → HasCause (λ x. ⊥) e → (new : Core D) → WhyNotPut state start new s held e
  poor Memory h new = tt
  poor e h new = absurd h

  -- no row is left
  pub put_nothing : length stored ≡ 0 → (come : List FileGroup) → come ≡ [] → (result : Result (Unit {0}) Refusal) → Kept come result → Ends now result
  put_nothing none come is (Ok x) kept = record {
    outcome = goes;
    is = no_more_held s.table.keys (key_view r.rest.key) held (subst (λ (ws : List Row). AreRowsOf s.table.keys (key_view r.rest.key) ws held) (nil_from_length stored none) b.are);
    written = subst (λ (fs : List FileGroup). HasWritten state start now s None fs (groups ++ [])) (sym (nothing_more files)) (subst (λ (gs : List Group). HasWritten state start now s None files gs) (sym (nothing_more groups)) has);
    changed = kept.0 ∙ ap (λ (fs : List FileGroup). changes_view before.changes.items ++ record { number = r.number; come = fs } ∷ []) is;
    counted = kept.1;
    rises = omega arith;
  }
  put_nothing none come is (Err e) kept = (has.wrote, omega arith, poor e kept.2 now)

  module _ (new : Core D) (later : (state now.vault.disk).failures ≤ (state new.vault.disk).failures) (same : new.jobs ≡ now.jobs) where
    abbrev key : Key
    key = key_view r.rest.key

    abbrev Wrote : Result (Rc CodeGroup Global) Refusal → Type 0
    Wrote result = Writes state now new None key held result (counted s now.next_group)

    -- its file is not written
    pub put_refused : (e : Refusal) → Wrote (Err e) → HasCause (IsPartRefusal now None key stored) e → Ends new (Err e)
    put_refused e writes cause = (
      wrote_so state start now new s None files groups key held has later same (Err e) writes,
      writes.no_more,
      why_not state start now s is_open files groups has new key stored held b e cause
          (λ is. failed_on (state start.vault.disk) (state now.vault.disk) (state new.vault.disk) has.no_less later (writes.cause is)),
    )

    module _ (g : Rc CodeGroup Global) (writes : Wrote (Ok g)) where
      pub put_poor : Ends new (Err Memory)
      put_poor = (wrote_so state start now new s None files groups key held has later same (Ok g) writes, writes.no_more, tt)

      pub put_one : 1 ≤ length stored → (come : List FileGroup) → come ≡ group_view (rc_value g) ∷ [] → (result : Result (Unit {0}) Refusal) → Kept come result → Ends new result
      put_one some come is (Ok x) kept = record {
        outcome = comes (group_view (rc_value g)) (written_group now.next_group key held);
        is = (refl, (let m = same_length s.table.keys key stored held b.are in omega (arith, some, m)));
        written = one_more state start now new s None files groups key held has later same g writes;
        changed = kept.0 ∙ ap (λ (fs : List FileGroup). changes_view before.changes.items ++ record { number = r.number; come = fs } ∷ []) is;
        counted = kept.1;
        rises = writes.no_more;
      }
      put_one some come is (Err e) kept = (wrote_so state start now new s None files groups key held has later same (Ok g) writes, writes.no_more, poor e kept.2 new)
