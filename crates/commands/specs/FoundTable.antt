-- The table that an append finds first: the lines of its file are read over it, while nobody is kept from the dataset.
use Rattle.std.specs.Prelude.{◌≡◌, Result, Ok, Err}
use Rattle.bits.specs.declared.refusal.Refusal.{Refusal}
use Rattle.bits.specs.declared.refusal.Refusal.TheVariants.{Memory}
use Rattle.disk.specs.State.{State as DiskState}
use Rattle.footer.specs.declared.options.WriteOptions.{WriteOptions}
use Rattle.manifest.specs.Groups.{root_of}
use Rattle.manifest.specs.declared.description.Manifest.{Manifest}
use Rattle.table_state.specs.declared.standing.Core.{Core}
use Rattle.commands.specs.Opening.{OpensToRead}

-- The dataset on a disk is opened to read, and what its root says is the result. Or that is refused.
pub data FindsTable {D : Type 0} (state : D → DiskState) (options : WriteOptions) (old new : D) (result : Result Manifest Refusal) : Type 0 where
  found : (store : Core D) (table : Manifest) → OpensToRead state old options (Ok store) → new ≡ store.vault.disk
      → root_of table ≡ root_of store.manifest → result ≡ Ok table → FindsTable state options old new result
  not_told : (store : Core D) → OpensToRead state old options (Ok store) → new ≡ store.vault.disk → result ≡ Err Memory
      → FindsTable state options old new result
  not_opened : (e : Refusal) → OpensToRead state old options (Err (new, e)) → result ≡ Err e → FindsTable state options old new result
