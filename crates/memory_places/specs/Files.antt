-- What is at the paths of files in memory.
use Rattle.std.specs.Prelude.{ℕ, Option, Some, None, String}
use Rattle.std.specs.HashMap.{HashMap, get_by_text}
use Rattle.std.specs.declared.vec.Vec.{Vec}
use Rattle.program.specs.Paths.{Place, Places, Free, Holds}
use Rattle.program.specs.Paths.{Folder as FolderAt}
use Rattle.memory_places.specs.declared.layout.There.{There}
use Rattle.memory_places.specs.declared.layout.There.TheVariants.{File, Folder}
use Rattle.memory_places.specs.declared.layout.Layout.{Layout}

-- what is at a path, by what is listed there
abbrev pub place_of : Option There → Place
place_of None = Free
place_of (Some (File bytes)) = Holds bytes.items
place_of (Some (Folder is_empty)) = FolderAt

-- what is at each path when a call begins
abbrev pub place_in : Layout → Places
place_in layout path = place_of (get_by_text layout.there path)

-- a file that was made since, or else what was there
abbrev pub made_or : {A : Type 0} → Option (Vec ℕ A) → Place → Place
made_or None place = place
made_or (Some bytes) place = Holds bytes.items

-- what is at each path, with the files that were made since
abbrev pub place_at : {Y A S : Type 0} → Layout → HashMap (String Y) (Vec ℕ A) S → Places
place_at layout made path = made_or (get_by_text made path) (place_in layout path)
