-- What a call of the program does to folders in memory.
use Rattle.std.specs.Prelude.{ℕ, Option, Ok, Err}
use Rattle.disk.specs.State.{State as DiskState}
use Rattle.mem_disk.specs.Disks.{state_of}
use Rattle.program.specs.Words.{Printing, Refusing, Giving, Withholding}
use Rattle.places.specs.Places.{Known}
use Rattle.commands.specs.Calls.{CallComes, GivesCall, GivesNoFile}
use Rattle.memory_places.specs.Folders.{known_in_memory}
use Rattle.memory_places.specs.declared.folder_disk.FolderDisk.{FolderDisk}
use Rattle.memory_places.specs.declared.memory_places.MemoryPlaces.{MemoryPlaces}

-- the state of the disk of a folder
abbrev pub state_of_folder : FolderDisk → DiskState
state_of_folder kept = state_of kept.disk

-- what is known of places in memory
abbrev pub known_of_places : MemoryPlaces → Known FolderDisk
known_of_places places = known_in_memory places.layout.now places.disks

module _ (S : Type 0) (old new : Known FolderDisk) where
  -- what is printed of a call on a dataset, which is done
  abbrev pub prints_in_memory : Printing
  prints_in_memory call before after = CallComes S state_of_folder known_of_places old new call before after (Ok tt)

  -- why it is refused, and what is printed then
  abbrev pub fails_in_memory : Refusing
  fails_in_memory call before after e = CallComes S state_of_folder known_of_places old new call before after (Err e)

  -- which files are given of it
  abbrev pub gives_in_memory : Giving
  gives_in_memory call was is = (most : Option ℕ) × GivesCall S state_of_folder old new call most was is (Ok tt)

  -- why none is
  abbrev pub withholds_in_memory : Withholding
  withholds_in_memory call e = GivesNoFile S state_of_folder old new call e
