-- A call that changes nothing, what it may be refused for, and that it is survived.
use Rattle.std.proofs.Common.{◌≡◌, ℕ, true, false, refl, sym, ◌∙◌, subst, arith, inl}
use Rattle.std.specs.Prelude.{IsTrue}
use Rattle.bits.specs.declared.refusal.Refusal.TheVariants.{Closed, Memory}
use Rattle.disk.specs.State.{State as DiskState}
use Rattle.table.specs.State.{State}
use Rattle.table.specs.Calls.{Call, reopen, Answer, refused}
use Rattle.table.specs.Refusing.{Happens, checked, no_memory, gets_on, needs_memory}
use Rattle.table.specs.Stops.{Survives}
use Rattle.table.proofs.Steady.{is_other, stays, is_shut}
use Rattle.table_state.specs.declared.standing.Core.{Core}
use Rattle.table_state.specs.OnDisk.{HoldsTable}
use Rattle.table_state.specs.Stands.{Shows, Stands}
use Rattle.table_state.specs.Promises.{KeepsPast, IsOlderFile, ActsFrom, Acts}
use Rattle.table_commits.proofs.OneCallMore.{reached_on}
use Rattle.table_commits.proofs.DisksLeftAlone.{all_here}
use Rattle.table_commits.proofs.DoubtCloses.{no_doubt}
use Rattle.table_commits.proofs.OlderFiles.{kept_read}

module _ {D : Type 0} (state : D → DiskState) (store : Core D) where
  abbrev disk : DiskState
  disk = state store.vault.disk

  pub survived : (s : State) → Shows state store s → Survives disk.images HoldsTable disk.moment disk.moment s s
  survived s shows = record {
    later = omega arith;
    each = λ m c lo hi at.
        let now : m ≡ disk.moment = omega (arith, lo, hi) in
        let h = shows.sound.tables c (subst (λ (k : ℕ). disk.images k c) now at) in
        (h.table, h.held, inl h.allowed);
    ended = λ c at. let h = shows.sound.tables c at in (h.table, h.held, h.allowed);
  }

  pub same_past : KeepsPast disk disk
  same_past = record { later = omega arith; history = λ m c l at. at; keeps = λ m c l at. at }

  pub changes_nothing : (call : Call) (answer : Answer) (s : State) → Stands state store s → Happens s call answer s → ActsFrom state store store call answer s
  changes_nothing call answer s stands happens = record { after = s; happens = happens; survives = survived s stands.shows; stands = stands; past = same_past; doubt = no_doubt s call answer s happens refl; kept = λ keeps. kept_read state store store (IsOlderFile s) keeps (all_here disk) }

  pub acts_shut : (call : Call) → is_other call ≡ true → store.closed ≡ true → Acts state store store call (refused Closed)
  acts_shut call o e honest s stands =
      let shut : s.closed ≡ true = sym stands.shows.closed ∙ e in
      changes_nothing call (refused Closed) s stands (checked (is_shut s call o shut) (λ b. absurd (cc)) (stays s call o))

  pub acts_poor : (call : Call) → is_other call ≡ true → ((s : State) → s.closed ≡ false → IsTrue (gets_on s call)) → ((s : State) → IsTrue (needs_memory s call)) → store.closed ≡ false → Acts state store store call (refused Memory)
  acts_poor call o on needs e honest s stands =
      let s_open : s.closed ≡ false = sym stands.shows.closed ∙ e in
      changes_nothing call (refused Memory) s stands (no_memory refl (on s s_open) (needs s) (stays s call o))

  -- a reopening that is refused closes
  pub shuts : Acts state store (record store { closed = true }) reopen (refused Memory)
  shuts honest s stands =
      let after : State = record s { closed = true } in
      let happens : Happens s reopen (refused Memory) after = no_memory refl refl refl refl in
      let shown = stands.shows in
      record {
        after = after;
        happens = happens;
        survives = record {
          later = omega arith;
          each = λ m c lo hi at.
              let now : m ≡ disk.moment = omega (arith, lo, hi) in
              let h = shown.sound.tables c (subst (λ (k : ℕ). disk.images k c) now at) in
              (h.table, h.held, inl h.allowed);
          ended = λ c at. let h = shown.sound.tables c at in (h.table, h.held, h.allowed);
        };
        stands = record {
          reached = reached_on s stands.reached reopen (refused Memory) after happens;
          shows = record {
            valid = shown.valid;
            apart = shown.apart;
            one_root = shown.one_root;
            options = shown.options;
            in_range = shown.in_range;
            schema = shown.schema;
            keys = shown.keys;
            next_job = shown.next_job;
            next_cursor = shown.next_cursor;
            next_group = shown.next_group;
            counted = shown.counted;
            closed = refl;
            room = shown.room;
            sound = record { tables = shown.sound.tables; sound = shown.sound.sound };
            shown = λ o. absurd (cc);
          };
        };
        past = same_past;
        doubt = λ is. absurd (cc);
        kept = λ keeps. kept_read state store (record store { closed = true }) (IsOlderFile s) keeps (all_here disk);
      }
