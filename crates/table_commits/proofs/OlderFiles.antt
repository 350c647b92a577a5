-- The files that are older than a state, and what a call of a store that keeps what is replaced leaves of them.
use Rattle.std.proofs.Common.{◌≡◌, ◌≤◌, ℕ, true, List, ◌∙◌}
use Rattle.std.specs.Prelude.{Result}
use Rattle.bits.specs.declared.refusal.Refusal.{Refusal}
use Rattle.disk.specs.State.{State as DiskState}
use Rattle.vault.specs.Views.{Same, Swaps}
use Rattle.vault.specs.Calls.{LeavesAll, SwapsRoot}
use Rattle.vault.proofs.Moments.{joins, widens}
use Rattle.table.specs.State.{State}
use Rattle.table_state.specs.declared.standing.Core.{Core}
use Rattle.table_state.specs.Paths.{IsOlder}
use Rattle.table_state.specs.Spares.{Agrees, Spares}
use Rattle.table_state.specs.Promises.{IsOlderFile, KeepsFiles}
use Rattle.table_commits.specs.Writing.{counted}
use Rattle.table_commits.proofs.SparedDisks.{older_still}

-- a counter that rises makes none younger
pub older_counted : (s : State) (counter : ℕ) → s.next_group ≤ counter → (path : List ℕ) → IsOlderFile s path → IsOlderFile (counted s counter) path
older_counted s counter grows path older = (older_still s.table.keys s.next_group counter grows path older.0, older.1)

module _ {D : Type 0} (state : D → DiskState) (old new : Core D) where
  -- files were written, all of them under later numbers
  pub kept_spared : (s : State) → new.keeps ≡ true → Spares s.table.keys (IsOlder s.table.keys s.next_group) (state old.vault.disk) (state new.vault.disk) → KeepsFiles state old new (IsOlderFile s)
  kept_spared s keeps spared = record {
    keeps = keeps;
    moments = widens (Agrees (IsOlder s.table.keys s.next_group)) (Agrees (IsOlderFile s)) (state old.vault.disk) (state new.vault.disk) (λ u v a path older. a path older.0) spared.moments;
    seen = λ path older. spared.seen path older.0 older.1;
  }

  -- the root was swapped, or was to be
  pub kept_swapped : {T : Type 0} (s : State) (root : List ℕ) (result : Result T Refusal) → new.keeps ≡ true → SwapsRoot root (state old.vault.disk) (state new.vault.disk) result → KeepsFiles state old new (IsOlderFile s)
  kept_swapped s root result keeps swaps = record {
    keeps = keeps;
    moments = widens (Swaps root) (Agrees (IsOlderFile s)) (state old.vault.disk) (state new.vault.disk) (λ u v change path older. change.others path older.1 older.0.not_next) swaps.moments;
    seen = λ path older. swaps.seen.others path older.1 older.0.not_next;
  }

  -- nothing was written
  pub kept_read : (Older : List ℕ → Type 0) → new.keeps ≡ true → LeavesAll (state old.vault.disk) (state new.vault.disk) → KeepsFiles state old new Older
  kept_read Older keeps left = record {
    keeps = keeps;
    moments = widens Same (Agrees Older) (state old.vault.disk) (state new.vault.disk) (λ u v a path older. a path) left.moments;
    seen = λ path older. left.seen path;
  }

-- fewer files
pub kept_less : {D : Type 0} (state : D → DiskState) (old new : Core D) (Older More : List ℕ → Type 0) → ((path : List ℕ) → Older path → More path) → KeepsFiles state old new More → KeepsFiles state old new Older
kept_less state old new Older More fewer kept = record {
  keeps = kept.keeps;
  moments = widens (Agrees More) (Agrees Older) (state old.vault.disk) (state new.vault.disk) (λ u v a path older. a path (fewer path older)) kept.moments;
  seen = λ path older. kept.seen path (fewer path older);
}

-- what one call and the next one leave
pub older_kept_on : {D : Type 0} (state : D → DiskState) (old mid new : Core D) (Older Before Later : List ℕ → Type 0) → ((path : List ℕ) → Older path → Before path) → ((path : List ℕ) → Older path → Later path)
    → KeepsFiles state old mid Before → KeepsFiles state mid new Later → KeepsFiles state old new Older
older_kept_on state old mid new Older Before Later before later one two = record {
  keeps = two.keeps;
  moments = joins (Agrees Before) (Agrees Later) (Agrees Older) (state old.vault.disk) (state mid.vault.disk) (state new.vault.disk)
      (λ u v w a b path older. b path (later path older) ∙ a path (before path older)) (λ u v a path older. a path (before path older)) one.moments two.moments;
  seen = λ path older. two.seen path (later path older) ∙ one.seen path (before path older);
}
