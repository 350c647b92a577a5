-- What is known of a store whose disk was borrowed.
use Rattle.std.specs.Borrow.{Lends, MutBor, Fml, RattleType}
use Rattle.disk.specs.declared.disk.Disk.{Ghosts}
use Rattle.table_state.specs.declared.standing.Core.{Core}
use Rattle.store.specs.contracts.store.Store.{the_row}

-- the store with this disk
abbrev pub with_disk : {D : Type 0} → Core D → D → Core D
with_disk s d = record s { vault = record s.vault { disk = d } }

-- once the borrow r ends, the store has the disk that r shows last
abbrev pub LendsDisk : (D : RattleType) → (disk : Ghosts D.Denot) → MutBor (the_row D disk).Denot → MutBor D.Denot → Fml
LendsDisk D disk s r = Lends (the_row D disk) D s r (with_disk s.now)
