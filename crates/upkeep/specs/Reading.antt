-- What calls that only read leave, and are refused for.
use Rattle.std.specs.Prelude.{◌≡◌, ◌↔◌, ◌≤◌, ◌+◌, ℕ, List, Option, Some, None}
use Rattle.bits.specs.declared.refusal.Refusal.{Refusal}
use Rattle.bits.specs.declared.refusal.Refusal.TheVariants.{Device, Memory, NoTable, Key}
use Rattle.disk.specs.State.{State}
use Rattle.vault.specs.Calls.{LeavesAll}
use Rattle.manifest.specs.Groups.{Root}
use Rattle.manifest.specs.Root.{RootMeans}
use Rattle.manifest.specs.Faults.{HasRootFault}

-- nothing that any image has, or that the disk reads, changes; at most so many ranges are read
pub record Looks (most : ℕ) (old new : State) : Type 0 where
  pub unchanged : old.honest → LeavesAll old new
  pub reads : new.reads ≤ old.reads + most
  pub counts : old.failures ≤ new.failures
  pub honest : old.honest ↔ new.honest

-- the refusal is Device
abbrev pub IsDevice : Refusal → Type 0
IsDevice e = e ≡ Device

-- the refusal is Key
abbrev pub IsKey : Refusal → Type 0
IsKey e = e ≡ Key

-- why a table is not described, by the root that is read
abbrev pub IsNotDescribed : Option (List ℕ) → Refusal → Type 0
IsNotDescribed root Device = Unit {0}
IsNotDescribed root Memory = Unit {0}
IsNotDescribed None e = e ≡ NoTable
IsNotDescribed (Some bytes) e = HasRootFault bytes e × ((root : Root) → RootMeans bytes root → ⊥)
