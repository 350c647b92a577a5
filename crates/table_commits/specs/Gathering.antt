-- Rows that were gathered for a table, and the groups that they are written as.
use Rattle.std.specs.Prelude.{◌≡◌, ◌≤◌, ℕ, Bool, true, false, List, [], ◌∷◌, ◌++◌, ◌⊎◌, length, Result, Ok, Err}
use Rattle.bits.specs.declared.refusal.Refusal.{Refusal}
use Rattle.bits.specs.declared.refusal.Refusal.TheVariants.{Memory, Schema}
use Rattle.bits.specs.Refusals.{IsFault}
use Rattle.schema.specs.Values.{ValueTrees}
use Rattle.schema.specs.Shape.{Fields}
use Rattle.schema.specs.Fits.{fits_each}
use Rattle.footer.specs.File.{FileMeans}
use Rattle.footer.specs.Faults.{HasFault}
use Rattle.manifest.specs.Groups.{Root}
use Rattle.manifest.specs.Root.{stored_of}
use Rattle.footer.specs.declared.options.WriteOptions.{WriteOptions}
use Rattle.gather.specs.declared.gathered.Gathered.{Gathered}
use Rattle.gather.specs.declared.key_buffer.KeyBuffer.{KeyBuffer}
use Rattle.gather.specs.GatheredRows.{schema_of, columns_of, size_of, holds}
use Rattle.gather.specs.KeyBuffers.{HoldsRows}
use Rattle.table.specs.Table.{Row}

-- the rows are of the table's schema, under its key columns, for groups of the size that the options say
pub record AreGatheredFor (root : Root) (options : WriteOptions) (g : Gathered) : Type 0 where
  pub schema : schema_of g ≡ root.schema
  pub columns : columns_of g ≡ root.keys
  pub size : size_of g ≡ options.group_rows

-- the buffer holds these rows, as the table's files have them: at least one, and at most as many as a group has
pub record HoldsPart (root : Root) (options : WriteOptions) (buffer : KeyBuffer) (stored : List Row) : Type 0 where
  pub rows : HoldsRows (stored_of root) stored buffer
  pub some : 1 ≤ length stored
  pub few : length stored ≤ options.group_rows

-- rows are gathered for the same table
pub record KeepsTable (old new : Gathered) : Type 0 where
  pub schema : schema_of new ≡ schema_of old
  pub columns : columns_of new ≡ columns_of old
  pub size : size_of new ≡ size_of old

-- the first of the rows that stood is gathered behind those that are, where it fits, and the others stand
pub record GathersFirst (T : List ValueTrees → Type 0) (old new : Gathered) (left : List ValueTrees) : Type 0 where
  pub first : ValueTrees
  pub rest : List ValueTrees
  pub split : left ≡ first ∷ rest
  pub stands : T rest
  pub held : (taken : List ValueTrees) → holds old taken → fits_each (schema_of old) first ≡ true → holds new (taken ++ first ∷ [])

-- the next of the rows that stood is gathered, or there is none; out of memory aside, nothing is refused where rows stood
abbrev pub GathersNext : (List ValueTrees → Type 0) → (List ValueTrees → Type 0) → Gathered → Gathered → Result Bool Refusal → Type 0
GathersNext S T old new (Ok true) = (left : List ValueTrees) → S left → GathersFirst T old new left
GathersNext S T old new (Ok false) = (left : List ValueTrees) → S left → left ≡ []
GathersNext S T old new (Err e) = (left : List ValueTrees) → S left → e ≡ Memory

-- behind the rows from before, the first of these rows are gathered, and the others still stand
pub record AreOnTheWay (S : List ValueTrees → Type 0) (g : Gathered) (before rows : List ValueTrees) : Type 0 where
  pub taken : List ValueTrees
  pub left : List ValueTrees
  pub split : rows ≡ taken ++ left
  pub stands : S left
  pub held : holds g (before ++ taken)

-- the bytes are a file of this schema, and its rows are gathered behind those from before
pub record GathersFile (fs : Fields) (bytes : List ℕ) (before : List ValueTrees) (g : Gathered) : Type 0 where
  pub rows : List ValueTrees
  pub means : FileMeans bytes fs rows
  pub held : holds g (before ++ rows)

-- the bytes are a file of these rows, which are gathered
pub record IsReadFor (root : Root) (options : WriteOptions) (bytes : List ℕ) (g : Gathered) : Type 0 where
  pub rows : List ValueTrees
  pub means : FileMeans bytes root.schema rows
  pub held : holds g rows
  pub table : AreGatheredFor root options g

-- the bytes are refused as a file is, or they are no file of this schema, or memory ran out
abbrev pub IsNotRead : Fields → List ℕ → Refusal → Type 0
IsNotRead fs bytes e =
    (HasFault bytes e × (IsFault e → (gs : Fields) (rows : List ValueTrees) → FileMeans bytes gs rows → ⊥))
    ⊎ ((e ≡ Schema) × ((rows : List ValueTrees) → FileMeans bytes fs rows → ⊥)) ⊎ (e ≡ Memory)
