-- Calls that change no file.
use Rattle.std.proofs.Common.{◌≡◌, ◌∙◌, refl, sym, ap, subst}
use Rattle.disk.specs.State.{State as DiskState}
use Rattle.vault.specs.Calls.{LeavesAll}
use Rattle.vault.specs.declared.vault.Vault.{Vault}
use Rattle.table_state.specs.declared.standing.Core.{Core}
use Rattle.table_commits.specs.Keeping.{LeavesFiles}
use Rattle.table_commits.proofs.DisksLeftAlone.{all_here}

module _ {D : Type 0} (state : D → DiskState) (old : Core D) where
  -- the disk is as it was
  pub still : (new : Core D) → new.vault ≡ old.vault → new.keeps ≡ old.keeps → LeavesFiles state old new
  still new v k = record {
    leaves = λ honest. subst (λ (vault : Vault D). LeavesAll (state old.vault.disk) (state vault.disk)) (sym v) (all_here (state old.vault.disk));
    keeps = k;
  }

  -- the store is what it was but for what is no file
  pub still_by : (new changed : Core D) → new ≡ changed → changed.vault ≡ old.vault → changed.keeps ≡ old.keeps → LeavesFiles state old new
  still_by new changed so v k = still new (ap (λ (store : Core D). store.vault) so ∙ v) (ap (λ (store : Core D). store.keeps) so ∙ k)

  -- nothing changed
  pub same : LeavesFiles state old old
  same = still old refl refl

  -- only files were read
  pub only_read : (new : Core D) → ((state old.vault.disk).honest → LeavesAll (state old.vault.disk) (state new.vault.disk)) → new.keeps ≡ old.keeps → LeavesFiles state old new
  only_read new leaves k = record { leaves = leaves; keeps = k }
