-- A disk that is left alone.
use Rattle.std.proofs.Common.{◌≡◌, refl}
use Rattle.disk.specs.State.{State as DiskState}
use Rattle.vault.specs.Views.{Same}
use Rattle.vault.specs.Calls.{LeavesAll}
use Rattle.vault.proofs.Moments.{nothing_yet, stays_rooted_here, stays_clear_here}

pub all_here : (disk : DiskState) → LeavesAll disk disk
all_here disk = record {
  moments = nothing_yet Same disk (λ u q. refl);
  rooted = λ rooted. stays_rooted_here disk rooted;
  clear = λ q clear. stays_clear_here disk q clear;
  names = λ q. refl;
  seen = λ q. refl;
}
