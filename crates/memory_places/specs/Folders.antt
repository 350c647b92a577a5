-- What is known of files and folders in memory.
use Rattle.std.specs.Prelude.{◌≡◌, ◌≢◌, ◌⊎◌, ⊤, ℕ, List, Option, Some, None, is_some, codes}
use Rattle.std.specs.HashMap.{get_by_text}
use Rattle.disk.specs.State.{IsAtRest}
use Rattle.disk.specs.declared.binding.Binding.TheVariants.{Folder}
use Rattle.mem_disk.specs.Disks.{state_of}
use Rattle.mem_disk.specs.Loose.{empty, image_of}
use Rattle.program.specs.Paths.{Holds}
use Rattle.places.specs.Places.{Known}
use Rattle.memory_places.specs.Files.{place_in}
use Rattle.memory_places.specs.declared.layout.Layout.{Layout}
use Rattle.memory_places.specs.declared.disks.FolderDisks.{FolderDisks}
use Rattle.memory_places.specs.declared.folder_disk.FolderDisk.{FolderDisk}

-- the folder at a path, with its disk unless that is handed out
abbrev pub disk_of_folder : FolderDisks → List ℕ → Option (Option FolderDisk)
disk_of_folder disks path = get_by_text disks.folders path

-- the disk is that of an empty folder
abbrev pub IsDiskOfNew : FolderDisk → Type 0
IsDiskOfNew kept = IsAtRest (state_of kept.disk) × ((state_of kept.disk).seen ≡ image_of empty)

-- where a folder is there, this is its disk
abbrev pub IsDiskOf : Option (Option FolderDisk) → FolderDisk → Type 0
IsDiskOf None disk = ⊤
IsDiskOf (Some kept) disk = kept ≡ Some disk

-- where a folder is there, this is its disk; where none is, it is that of a new one
abbrev pub IsDiskMade : Option (Option FolderDisk) → FolderDisk → Type 0
IsDiskMade None disk = IsDiskOfNew disk
IsDiskMade (Some kept) disk = kept ≡ Some disk

-- a folder has the name of the root
abbrev pub HasFolderAsRoot : Option (Option FolderDisk) → Type 0
HasFolderAsRoot None = ⊥
HasFolderAsRoot (Some None) = ⊥
HasFolderAsRoot (Some (Some kept)) = (state_of kept.disk).seen.names (codes "_metadata") ≡ Folder

-- no disk can be had of the folder
abbrev pub HasNoDisk : Option (Option FolderDisk) → Type 0
HasNoDisk folder = (kept : FolderDisk) → folder ≢ Some (Some kept)

-- no file is at a path, or no folder that can be used, or in it a folder has the name of the root
abbrev pub IsShut : Layout → FolderDisks → List ℕ → Type 0
IsShut layout disks path =
    ((bytes : List ℕ) → place_in layout path ≢ Holds bytes) ⊎ (HasNoDisk (disk_of_folder disks path) ⊎ HasFolderAsRoot (disk_of_folder disks path))

-- what is known, where this is at paths, and folders have these disks
abbrev pub known_in_memory : Layout → FolderDisks → Known FolderDisk
known_in_memory layout disks = record {
  file = λ path bytes. place_in layout path ≡ Holds bytes;
  folder = λ path disk. IsDiskOf (disk_of_folder disks path) disk;
  made = λ path disk. IsDiskMade (disk_of_folder disks path) disk;
  is_folder = λ path is. is_some (disk_of_folder disks path) ≡ is;
  is_shut = λ path. IsShut layout disks path;
}

-- the folders are as they were, but for this one
abbrev pub StayBut : List ℕ → FolderDisks → FolderDisks → Type 0
StayBut at old new = (path : List ℕ) → path ≢ at → disk_of_folder new path ≡ disk_of_folder old path

-- the folders are as they were
abbrev pub Stay : FolderDisks → FolderDisks → Type 0
Stay old new = (path : List ℕ) → disk_of_folder new path ≡ disk_of_folder old path
