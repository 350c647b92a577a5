-- What comes of a call, where places were looked at before it.
use Rattle.std.proofs.Common.{ℕ, Bool, false, List, Option, Some, None, Result, Ok, Err}
use Rattle.std.specs.Prelude.{⊤}
use Rattle.std.proofs.lemmas.Result.{on_ok_weaker}
use Rattle.bits.specs.declared.refusal.Refusal.{Refusal}
use Rattle.disk.specs.State.{State as DiskState}
use Rattle.footer.specs.declared.options.WriteOptions.{WriteOptions}
use Rattle.dataset_words.specs.declared.call.Call.{Call}
use Rattle.dataset_words.specs.declared.call.Task.{Task}
use Rattle.dataset_words.specs.declared.call.Task.TheVariants.{Create, Ask, Change as ToChange, Look as LookAt, Run}
use Rattle.dataset_words.specs.declared.call.Question.TheVariants.{Query, Count, Groups, Schema}
use Rattle.dataset_words.specs.declared.call.Look.{Look}
use Rattle.dataset_words.specs.declared.call.Look.TheVariants.{Survey, Files, Rows}
use Rattle.places.specs.Places.{Known, StaysKnown}
use Rattle.places.proofs.PlacesKept.{stays_then, stays_but, kept_before, among_before, files_before, ends_before, but_then, carried}
use Rattle.commands.specs.Tasks.{first_file}
use Rattle.commands.specs.Creating.{InNewFolder, handed_back, not_made, not_taken, taken_away, MakesTable, Creates, of_schema, not_begun}
use Rattle.commands.specs.Looking.{LooksInFolder, looked, no_folder}
use Rattle.manifest.specs.Groups.{root_of}
use Rattle.commands.specs.Calls.{OnFolder, OnFiles, OnFilesBy, read, unread, PrintsOfFile, ComesUnfiltered, on_folder, on_file, named_paths, append_of}
use Rattle.commands.specs.Calls.{AppendsLines, no_file, no_table, no_rows, lines_read}
use Rattle.commands.proofs.BlocksRead.{of_shut}
use Rattle.commands.specs.Calls.{GivesAsked, of_question, not_asked}

module _ {D : Type 0} {old mid new : Known D} (stays : StaysKnown old mid) where
  -- what comes of a folder that is made after it comes of it before
  pub made_before : {W T : Type 0} (disk_in : W → D) (path : List ℕ) (Comes : W → W → Result T Refusal → Type 0) (result : Result T Refusal)
      → InNewFolder disk_in mid new path Comes result → InNewFolder disk_in old new path Comes result
  made_before disk_in path Comes result (handed_back begun ended was is others comes) =
      handed_back begun ended ((stays.made path (disk_in begun)).1 was) is (but_then path (stays_but stays path) others) comes
  made_before disk_in path Comes result (not_made e kept still is) = not_made e (kept_before stays path e kept) (stays_then stays still) is
  made_before disk_in path Comes result (not_taken e has others is) =
      not_taken e (λ disk there. (stays.made path disk).1 (has disk there)) (but_then path (stays_but stays path) others) is
  made_before disk_in path Comes result (taken_away e none others is) = taken_away e ((stays.is_folder path false).1 none) (but_then path (stays_but stays path) others) is

  created_before : {W : Type 0} (state : W → DiskState) (disk_in : W → D) (path : List ℕ) (o : WriteOptions) (bytes : List ℕ) (names : List (List ℕ))
      (result : Result ⊤ Refusal) → Creates state disk_in mid new path o bytes names result → Creates state disk_in old new path o bytes names result
  created_before state disk_in path o bytes names result (of_schema schema is_text says can comes) =
      of_schema schema is_text says can (made_before disk_in path (MakesTable state o schema names) result comes)
  created_before state disk_in path o bytes names result (not_begun e still is) = not_begun e (stays_then stays still) is

  looked_before : {W : Type 0} (state : W → DiskState) (disk_in : W → D) (path : List ℕ) (texts : Bool) (look : Look) (file : List ℕ) (before after : Option (List ℕ))
      (result : Result ⊤ Refusal)
      → LooksInFolder state disk_in mid new path texts look file before after result → LooksInFolder state disk_in old new path texts look file before after result
  looked_before state disk_in path texts look file before after result (looked in_folder) = looked (carried stays disk_in path _ _ result in_folder)
  looked_before state disk_in path texts look file before after result (no_folder none still unprinted is) =
      no_folder ((stays.is_folder path false).1 none) (stays_then stays still) unprinted is

module _ {D : Type 0} {old mid : Known D} (stays : StaysKnown old mid) (before after : Option (List ℕ)) (result : Result ⊤ Refusal) where
  -- so does what is printed of a file
  pub of_file_before : (path : List ℕ) (task : Task) → PrintsOfFile mid path task before after result → PrintsOfFile old path task before after result
  of_file_before path (Ask Schema) prints = on_ok_weaker result (λ h. (h.0, ends_before stays path h.0 h.1, h.2)) prints
  of_file_before path (LookAt Files) prints = on_ok_weaker result (λ h. (h.0, (stays.files path h.0).1 h.1, h.2, h.3, h.4)) prints
  of_file_before path (Ask (Query filter columns limit)) prints = prints
  of_file_before path (Ask (Count filter)) prints = prints
  of_file_before path (Ask (Groups stats)) prints = prints
  of_file_before path (LookAt (Survey min_rows as_json)) prints = prints
  of_file_before path (LookAt (Rows rows)) prints = prints
  of_file_before path (ToChange change) prints = prints
  of_file_before path (Run script stops) prints = prints
  of_file_before path (Create schema keys) prints = prints

module _ {D : Type 0} {old mid : Known D} (stays : StaysKnown old mid) (S : Type 0) (state : D → DiskState) (call : Call) (before after : Option (List ℕ)) (result : Result ⊤ Refusal) (new : Known D) where
  -- so does what comes of a task
  pub on_folder_before : (task : Task) (files : List (List ℕ)) → OnFolder S state mid new call task files before after result → OnFolder S state old new call task files before after result
  on_folder_before (Ask question) files comes = carried stays _ call.folder.now _ _ result comes
  on_folder_before (ToChange change) files comes = carried stays _ call.folder.now _ _ result comes
  on_folder_before (Run script stops) files comes = carried stays _ call.folder.now _ _ result comes
  on_folder_before (LookAt look) files comes = looked_before stays _ _ call.folder.now call.texts look (first_file files) before after result comes
  on_folder_before (Create schema keys) files comes = (created_before stays _ _ call.folder.now call.options _ _ result comes.0, comes.1)

  on_files_before : OnFiles S state mid new call before after result → OnFiles S state old new call before after result
  on_files_before (read files are comes) = read files (files_before stays (named_paths call.task) files are) (on_folder_before call.task files comes)
  on_files_before (unread e kept still unprinted is) = unread e (among_before stays (named_paths call.task) e kept) (stays_then stays still) unprinted is

module _ {P D : Type 0} {old mid : Known D} (stays : StaysKnown old mid) (S : Type 0) (state : D → DiskState) (known : P → Known D) (call : Call) (before after : Option (List ℕ)) (result : Result ⊤ Refusal) (new : Known D) where
  -- so does what comes of an append
  lines_before : (path : List ℕ) (unless : Option (List ℕ)) → AppendsLines S state known mid new call path unless before after result
      → AppendsLines S state known old new call path unless before after result
  lines_before path unless (no_file e kept still unprinted is) = no_file e (kept_before stays path e kept) (stays_then stays still) unprinted is
  lines_before path unless (no_table e comes unprinted is) = no_table e (carried stays _ call.folder.now _ _ (Err e) comes) unprinted is
  lines_before path unless (no_rows e table comes kept unprinted is) =
      no_rows e table (carried stays _ call.folder.now _ _ (Ok table) comes)
      (of_shut (stays.is_shut path).1 (mid.file path) (old.file path) (λ bytes. (stays.files path bytes).1) call.texts (root_of table).schema e kept) unprinted is
  lines_before path unless (lines_read here table bytes rows comes there utf8 are after_it) =
      lines_read here table bytes rows (carried stays _ call.folder.now _ _ (Ok table) comes) ((stays.files path bytes).1 there) utf8 are after_it

  by_task_before : (asked : Option (List ℕ × Option (List ℕ))) → OnFilesBy S state known mid new call asked before after result → OnFilesBy S state known old new call asked before after result
  by_task_before (Some asked) comes = lines_before asked.0 asked.1 comes
  by_task_before None comes = on_files_before stays S state call before after result new comes

  pub comes_before : ComesUnfiltered S state known mid new call before after result → ComesUnfiltered S state known old new call before after result
  comes_before (on_folder comes) = on_folder (by_task_before (append_of call.task) comes)
  comes_before (on_file none still prints) = on_file ((stays.is_folder call.folder.now false).1 none) (stays_then stays still) (of_file_before stays before after result call.folder.now call.task prints)

-- so does what a sink gets
pub gives_before : {D : Type 0} {old mid new : Known D} (stays : StaysKnown old mid) (S : Type 0) (state : D → DiskState) (call : Call) (most : Option ℕ) (was is : Option (List (List ℕ))) (result : Result ⊤ Refusal)
    → GivesAsked S state mid new call most was is result → GivesAsked S state old new call most was is result
gives_before stays S state call most was is result (of_question question asked gives) = of_question question asked (carried stays _ call.folder.now _ _ result gives)
gives_before stays S state call most was is result (not_asked still none refused) = not_asked (stays_then stays still) none refused
