-- The root of a planned commit, and its weight.
use Rattle.std.proofs.Common.{◌≡◌, ℕ, List, [], ◌∷◌}
use Rattle.std.specs.List.{AllZip}
use Rattle.schema.specs.Shape.{Fields}
use Rattle.schema.specs.Keys.{KeyColumn}
use Rattle.disk.specs.State.{State as DiskState}
use Rattle.manifest.specs.Groups.{Group as FileGroup, Root}
use Rattle.manifest.specs.Root.{IsDescription}
use Rattle.manifest.specs.Laid.{IsRootTooHeavy}
use Rattle.table.specs.Table.{Group, Table}
use Rattle.table.specs.Weights.{IsRootTooMuch}
use Rattle.table_state.specs.Stands.{AreStored}
use Rattle.table_commits.specs.Weighing.{IsDescribedGroup, PlansAreTooMuch}
use Rattle.table_commits.proofs.HeavyRoots.{heavy_roots_are_too_much}

pub described_groups : (disk : DiskState) (keys : List KeyColumn) (schema : Fields) (count : ℕ) (files : List FileGroup) (groups : List Group) → AreStored disk keys schema count files groups → AllZip IsDescribedGroup files groups
described_groups disk keys schema count [] [] all = tt
described_groups disk keys schema count [] (g ∷ gs) all = absurd all
described_groups disk keys schema count (f ∷ fs) [] all = absurd all
described_groups disk keys schema count (f ∷ fs) (g ∷ gs) all = (record { number = all.0.number; key = all.0.key }, described_groups disk keys schema count fs gs all.1)

-- a description of this table, whose files are stored
pub too_heavy_is_too_much : (disk : DiskState) (count : ℕ) (t : Table) (root : Root) → root.schema ≡ t.schema → root.keys ≡ t.keys → AreStored disk t.keys t.schema count root.groups t.groups → IsDescription root → IsRootTooHeavy root → IsRootTooMuch t
too_heavy_is_too_much disk count t root schema keys stored described heavy =
    heavy_roots_are_too_much root t described.each (record { schema = schema; keys = keys; groups = described_groups disk t.keys t.schema count root.groups t.groups stored }) heavy

pub plans_are_too_much : {D : Type 0} (state : D → DiskState) → PlansAreTooMuch state
plans_are_too_much state store s t jobs job root planned heavy =
    too_heavy_is_too_much (state store.vault.disk) s.next_group t root planned.schema_is planned.keys_are planned.stored planned.described heavy
