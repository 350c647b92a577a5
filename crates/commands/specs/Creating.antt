-- What comes of making a dataset.
use Rattle.std.specs.Prelude.{◌≡◌, ◌≢◌, ◌≤◌, ◌⊎◌, ◌↔◌, ⊤, ℕ, false, List, None, Result, Err, OnOk, IfErr, IsUtf8}
use Rattle.bits.specs.declared.refusal.Refusal.{Refusal}
use Rattle.bits.specs.declared.refusal.Refusal.TheVariants.{Device, InDoubt}
use Rattle.schema.specs.Shape.{Fields}
use Rattle.schema.specs.Keys.{KeyColumn}
use Rattle.disk.specs.State.{State as DiskState, content}
use Rattle.vault.specs.Views.{root_path}
use Rattle.vault.specs.Calls.{HasFailed, LeavesAll}
use Rattle.footer.specs.declared.options.WriteOptions.{WriteOptions}
use Rattle.table.specs.Table.{empty_table}
use Rattle.table.specs.State.{opened}
use Rattle.jsonrows.specs.SchemaJson.{IsSchemaText}
use Rattle.table_state.specs.declared.standing.Core.{Core}
use Rattle.table_state.specs.Spares.{HasRoom}
use Rattle.table_state.specs.Stands.{Stands}
use Rattle.table_openings.specs.Opening.{AreNamedKeys, CanKey, HasNoRoot, LeavesNoneOr, IsCreatable, IsNotCreated}
use Rattle.places.specs.Places.{Known, StaysKnown, StaysBut, IsKeptFrom}

-- nothing that any image has, or that an honest disk reads, changes
pub record OnlyLooks (old new : DiskState) : Type 0 where
  pub unchanged : old.honest → LeavesAll old new
  pub counts : old.failures ≤ new.failures
  pub honest : old.honest ↔ new.honest

-- What making a table of a schema and these keys makes of a disk, which is handed back: the clauses of the store's call, in one place.
pub record CreatesOn {D : Type 0} (state : D → DiskState) (o : WriteOptions) (schema : Fields) (names : List (List ℕ)) (old new : D) (result : Result ⊤ Refusal)
    : Type 0 where
  -- a store stands on the empty table of this schema and these keys
  pub created : (state old).honest → (keys : List KeyColumn) → AreNamedKeys schema names keys → HasRoom keys (state old)
      → OnOk result ((store : Core D) × (store.vault.disk ≡ new) × Stands state store (opened o (empty_table schema keys)))
  -- a stop within it leaves no root or that table
  pub moments : (state old).honest → (keys : List KeyColumn) → AreNamedKeys schema names keys → HasRoom keys (state old) → HasNoRoot (state old)
      → LeavesNoneOr (empty_table schema keys) (state old) (state new)
  pub refused : (state old).honest → HasNoRoot (state old) → IfErr result (λ e. e ≢ InDoubt → HasNoRoot (state new))
  pub room : (state old).honest → (keys : List KeyColumn) → AreNamedKeys schema names keys → HasRoom keys (state old) → HasRoom keys (state new)
  pub asked : (state old).honest → OnOk result (IsCreatable schema names o (state old))
  pub which : (state old).honest → IfErr result (IsNotCreated schema names o (state old))
  -- a root that is there stays, with all else
  pub unchanged : (state old).honest → content (state old).seen root_path ≢ None → LeavesAll (state old) (state new)
  pub cause : (state old).honest → (keys : List KeyColumn) → AreNamedKeys schema names keys → HasRoom keys (state old)
      → IfErr result (λ e. (e ≡ Device) ⊎ (e ≡ InDoubt) → HasFailed (state old) (state new))
  pub counts : (state old).failures ≤ (state new).failures
  pub honest : (state old).honest ↔ (state new).honest

-- What comes of a disk on which a table is to be made. It is made, or refused as the store refuses it; or the disk is only looked at, for
-- part files that the table would remove.
pub data MakesTable {D : Type 0} (state : D → DiskState) (o : WriteOptions) (schema : Fields) (names : List (List ℕ)) (old new : D) (result : Result ⊤ Refusal)
    : Type 0 where
  created_so : CreatesOn state o schema names old new result → MakesTable state o schema names old new result
  only_looked : (e : Refusal) → OnlyLooks (state old) (state new) → result ≡ Err e → MakesTable state o schema names old new result

-- What comes of the folder at a path, which is made where nothing is there: of its disk, or that of a new folder, as it was and as it is
-- given back. Or it is not made, and all is as it was; or its disk is not taken, and it has no other; or none was there, and the new one is
-- taken away again.
pub data InNewFolder {D W T : Type 0} (disk_in : W → D) (old new : Known D) (path : List ℕ) (Comes : W → W → Result T Refusal → Type 0) (result : Result T Refusal)
    : Type 0 where
  handed_back : (begun ended : W) → old.made path (disk_in begun) → new.folder path (disk_in ended) → StaysBut path old new → Comes begun ended result
      → InNewFolder disk_in old new path Comes result
  not_made : (e : Refusal) → IsKeptFrom old path e → StaysKnown old new → result ≡ Err e → InNewFolder disk_in old new path Comes result
  not_taken : (e : Refusal) → ((disk : D) → new.folder path disk → old.made path disk) → StaysBut path old new → result ≡ Err e
      → InNewFolder disk_in old new path Comes result
  taken_away : (e : Refusal) → old.is_folder path false → StaysBut path old new → result ≡ Err e → InNewFolder disk_in old new path Comes result

-- What comes of making a dataset in a folder, of the schema that these bytes are the text of, with key columns of these names. Or the bytes
-- are no such text, or the columns cannot be keys, or memory ran out, and all is as it was.
pub data Creates {D W : Type 0} (state : W → DiskState) (disk_in : W → D) (old new : Known D) (path : List ℕ) (o : WriteOptions) (bytes : List ℕ)
    (names : List (List ℕ)) (result : Result ⊤ Refusal) : Type 0 where
  of_schema : (schema : Fields) → IsUtf8 bytes → IsSchemaText bytes schema → CanKey schema names
      → InNewFolder disk_in old new path (MakesTable state o schema names) result → Creates state disk_in old new path o bytes names result
  not_begun : (e : Refusal) → StaysKnown old new → result ≡ Err e → Creates state disk_in old new path o bytes names result
