-- The list of a vector with room after it.
use Rattle.std.specs.Prelude.{List, take}
use Rattle.shred.specs.declared.roomy_list.RoomyList.{RoomyList}

-- the first items of the vector
abbrev pub list_of : {T : Type 0} → RoomyList T → List T
list_of {T = T} l = take l.count l.items.items
