-- The table that an append finds, and what comes of the rows that are read for it.
use Rattle.std.proofs.Common.{◌≡◌, ℕ, List, Option, Result, Ok, Err, IsErrAnd, refl, ap}
use Rattle.std.specs.Prelude.{⊤, IfOk}
use Rattle.bits.specs.declared.refusal.Refusal.{Refusal}
use Rattle.bits.specs.declared.refusal.Refusal.TheVariants.{Memory}
use Rattle.bits.specs.Refusals.{HasCause, RefusedMemoryOnly}
use Rattle.disk.specs.State.{State as DiskState}
use Rattle.footer.specs.declared.options.WriteOptions.{WriteOptions}
use Rattle.manifest.specs.Groups.{root_of}
use Rattle.manifest.specs.declared.description.Manifest.{Manifest}
use Rattle.table_state.specs.declared.standing.Core.{Core}
use Rattle.dataset_words.specs.declared.call.Call.{Call}
use Rattle.commands.specs.Opening.{OpensToRead}
use Rattle.places.specs.Places.{Known, StaysKnown, IsKeptFrom, InFolder, given_back, not_had}
use Rattle.commands.specs.FileLines.{AreRefusedOf}
use Rattle.commands.specs.FoundTable.{FindsTable, found, not_told}
use Rattle.commands.specs.Calls.{AppendsLines, no_file, no_table, no_rows, ChangesDisk, changed, not_opened, state_within, disk_within}
use Rattle.commands.specs.declared.watched.Watched.{Watched}

only_memory : (e : Refusal) → HasCause (λ f. ⊥) e → e ≡ Memory
only_memory Memory has = refl
only_memory e has = absurd has

-- what the root of a dataset says that was opened is told, unless memory runs out
pub found_of : {D : Type 0} {state : D → DiskState} {options : WriteOptions} {old new : D} (store : Core D) → OpensToRead state old options (Ok store) → new ≡ store.vault.disk
    → (told : Result Manifest Refusal) → IfOk told (λ m. root_of m ≡ root_of store.manifest) → RefusedMemoryOnly told → FindsTable state options old new told
found_of store opens back (Ok table) same which = found store table opens back same refl
found_of store opens back (Err e) same which = not_told store opens back (ap Err (only_memory e which))

module _ {P D S : Type 0} {state : D → DiskState} {known : P → Known D} {old new : Known D} {call : Call} {path : List ℕ} {unless before after : Option (List ℕ)} where
  -- the file was not had
  pub no_file_of : (result : Result ⊤ Refusal) (e : Refusal) → IsErrAnd result (λ f. f ≡ e) → IsKeptFrom old path e → StaysKnown old new → after ≡ before
      → AppendsLines S state known old new call path unless before after result
  no_file_of (Ok x) e is kept stays unprinted = absurd is
  no_file_of (Err f) e is kept stays unprinted = no_file e kept stays unprinted (ap Err is)

  -- no table was found
  pub no_table_of : (result : Result ⊤ Refusal) (e : Refusal) → IsErrAnd result (λ f. f ≡ e)
      → InFolder (disk_within {D = D} {S = S}) old new call.folder.now (FindsTable (state_within state) call.options) ⊤ (Err e) → after ≡ before
      → AppendsLines S state known old new call path unless before after result
  no_table_of (Ok x) e is finds unprinted = absurd is
  no_table_of (Err f) e is finds unprinted = no_table e finds unprinted (ap Err is)

  -- the lines were refused
  pub no_rows_of : (result : Result ⊤ Refusal) (e : Refusal) (table : Manifest) → IsErrAnd result (λ f. f ≡ e)
      → InFolder (disk_within {D = D} {S = S}) old new call.folder.now (FindsTable (state_within state) call.options) ⊤ (Ok table)
      → AreRefusedOf (old.is_shut path) (old.file path) call.texts (root_of table).schema e → after ≡ before
      → AppendsLines S state known old new call path unless before after result
  no_rows_of (Ok x) e table is finds refused unprinted = absurd is
  no_rows_of (Err f) e table is finds refused unprinted = no_rows e table finds refused unprinted (ap Err is)

-- ---- changes

-- what comes of a folder, where more is known of what comes of its disk
pub in_folder_so : {D W T : Type 0} {disk_in : W → D} {old new : Known D} {path : List ℕ} (Comes Others : W → W → Result T Refusal → Type 0) {Unchanged : Type 0} (result : Result T Refusal)
    → ((begun ended : W) → Comes begun ended result → Others begun ended result) → InFolder disk_in old new path Comes Unchanged result
    → InFolder disk_in old new path Others Unchanged result
in_folder_so Comes Others result so (given_back begun ended was is others comes) = given_back begun ended was is others (so begun ended comes)
in_folder_so Comes Others result so (not_had e kept stays unchanged is) = not_had e kept stays unchanged is

-- what is made of a disk, where more is known of what is made of its store
pub changes_so : {D S : Type 0} {state : D → DiskState} {options : WriteOptions} (Comes Others : Core (Watched D S) → Core (Watched D S) → Result ⊤ Refusal → Type 0)
    {before after : Option (List ℕ)} {old new : Watched D S} (result : Result ⊤ Refusal) → ((from to : Core (Watched D S)) → Comes from to result → Others from to result)
    → ChangesDisk state options Comes before after old new result → ChangesDisk state options Others before after old new result
changes_so Comes Others result so (changed opened to cleaned opens comes cleans back) = changed opened to cleaned opens (so _ to comes) cleans back
changes_so Comes Others result so (not_opened e opens unprinted is) = not_opened e opens unprinted is
