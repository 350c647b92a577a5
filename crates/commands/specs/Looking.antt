-- What comes of a look at a dataset, which is not opened.
use Rattle.std.specs.Prelude.{◌≡◌, ◌⊎◌, ◌++◌, ⊤, ℕ, Bool, false, List, [], codes, decimal, length, Option, Some, Result, Err, OnOk, IsUtf8}
use Rattle.std.specs.Str.Lines.{lines}
use Rattle.std.specs.Io.KnownBytes.{Appends}
use Rattle.bits.specs.declared.refusal.Refusal.{Refusal}
use Rattle.bits.specs.declared.refusal.Refusal.TheVariants.{Device}
use Rattle.schema.specs.Shape.{Fields}
use Rattle.schema.specs.Values.{ValueTrees}
use Rattle.disk.specs.State.{State as DiskState, Image, content}
use Rattle.vault.specs.Views.{root_path}
use Rattle.vault.specs.Calls.{LeavesAll}
use Rattle.manifest.specs.Groups.{Root}
use Rattle.manifest.specs.Root.{RootMeans}
use Rattle.upkeep.specs.Intact.{AreHeld}
use Rattle.dataset_words.specs.declared.call.Look.{Look}
use Rattle.dataset_words.specs.declared.call.Look.TheVariants.{Survey, Files, Rows}
use Rattle.commands.specs.RowLines.{AreRowTexts}
use Rattle.places.specs.Places.{Known, StaysKnown, InFolder}

-- ---- what a look finds

-- the text is a note, or there is none
abbrev pub MayBeNote : List ℕ → Type 0
MayBeNote text = (text ≡ []) ⊎ ((said : List ℕ) × (text ≡ codes "note: " ++ said ++ codes "\n"))

-- each line of a file is that of a row; how many they are is printed, and then a note or none
pub record LinesFit (texts : Bool) (fs : Fields) (file : List ℕ) (before after : Option (List ℕ)) : Type 0 where
  pub is_text : IsUtf8 file
  pub rows : List ValueTrees
  pub read : AreRowTexts texts fs (lines file) rows
  pub note : List ℕ
  pub noted : MayBeNote note
  pub printed : Appends before after ((codes "ok " ++ decimal (length rows) ++ codes " rows\n") ++ note)

-- What a look finds of the table that a root describes, on a disk that reads this image. Of `check DIR`: each file that the root names is there
-- and holds its group. Of `check DIR ROWS`: each line of the file is that of a row of the table. Of `inspect DIR` nothing is said.
abbrev pub Finds : Bool → Look → List ℕ → Image → Root → Option (List ℕ) → Option (List ℕ) → Type 0
Finds texts (Survey min_rows as_json) file image root before after = ⊤
Finds texts Files file image root before after = AreHeld image root
Finds texts (Rows rows) file image root before after = LinesFit texts root.schema file before after

-- a root is there, and of its table a look finds that
pub record FindsTable (texts : Bool) (look : Look) (file : List ℕ) (image : Image) (before after : Option (List ℕ)) : Type 0 where
  pub bytes : List ℕ
  pub root : Root
  pub there : content image root_path ≡ Some bytes
  pub means : RootMeans bytes root
  pub finds : Finds texts look file image root before after

-- ---- a look

-- What comes of a look at the dataset on an honest disk, with the bytes of the file that the call names: nothing that any image has, or that
-- the disk reads, changes; and it is Ok only where it finds what it looks for.
pub record LooksOnly {D : Type 0} (state : D → DiskState) (texts : Bool) (look : Look) (file : List ℕ) (before after : Option (List ℕ))
    (old new : D) (result : Result ⊤ Refusal) : Type 0 where
  pub leaves : (state old).honest → LeavesAll (state old) (state new)
  pub right : (state old).honest → OnOk result (FindsTable texts look file (state old).seen before after)

-- What comes of a look at the dataset in a folder. Where there is no folder it is refused, and nothing is printed.
pub data LooksInFolder {D W : Type 0} (state : W → DiskState) (disk_in : W → D) (old new : Known D) (path : List ℕ)
    (texts : Bool) (look : Look) (file : List ℕ) (before after : Option (List ℕ)) (result : Result ⊤ Refusal) : Type 0 where
  looked : InFolder disk_in old new path (LooksOnly state texts look file before after) (after ≡ before) result
      → LooksInFolder state disk_in old new path texts look file before after result
  no_folder : old.is_folder path false → StaysKnown old new → after ≡ before → result ≡ Err Device
      → LooksInFolder state disk_in old new path texts look file before after result
