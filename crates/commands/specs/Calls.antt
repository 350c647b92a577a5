-- What comes of a call on a dataset, from the files and the folder that it names to what is printed.
use Rattle.std.specs.Prelude.{◌≡◌, ◌≢◌, ◌⊎◌, ⊤, ℕ, Bool, true, false, List, [], ◌∷◌, ◌++◌, ◌==◌, if◌then◌else◌}
use Rattle.std.specs.Prelude.{OnOk, length, codes, decimal, Option, Some, None, option_and_then, Result, Ok, Err, IsUtf8}
use Rattle.std.specs.Str.Lines.{lines}
use Rattle.std.specs.Io.KnownBytes.{Appends, Keeps}
use Rattle.serde_json.specs.Data.{Items, array}
use Rattle.serde_json.specs.Written.{compact_text}
use Rattle.bits.specs.Refusals.{HasCause}
use Rattle.bits.specs.declared.refusal.Refusal.{Refusal}
use Rattle.bits.specs.declared.refusal.Refusal.TheVariants.{Device, Memory, Script}
use Rattle.disk.specs.State.{State as DiskState}
use Rattle.schema.specs.Shape.{Fields}
use Rattle.schema.specs.Values.{ValueTrees}
use Rattle.footer.specs.declared.options.WriteOptions.{WriteOptions}
use Rattle.manifest.specs.Groups.{Root, root_of}
use Rattle.manifest.specs.declared.description.Manifest.{Manifest}
use Rattle.table_state.specs.declared.standing.Core.{Core}
use Rattle.dataset_words.specs.declared.call.Call.{Call}
use Rattle.dataset_words.specs.declared.call.Task.{Task}
use Rattle.dataset_words.specs.declared.call.Task.TheVariants.{Create, Ask, Change as ToChange, Look as LookAt, Run}
use Rattle.dataset_words.specs.declared.call.Question.{Question}
use Rattle.dataset_words.specs.declared.call.Question.TheVariants.{Query, Count, Schema}
use Rattle.dataset_words.specs.declared.call.Change.{Change}
use Rattle.dataset_words.specs.declared.call.Change.TheVariants.{Append, Import, AddColumn, Remove}
use Rattle.dataset_words.specs.declared.call.Look.TheVariants.{Files, Rows}
use Rattle.jsonrows.specs.SchemaPrinted.{PrintsFields}
use Rattle.jsonrows.specs.SchemaJson.{IsSchemaText}
use Rattle.answers.specs.Querying.{IsSchemaOfFile}
use Rattle.places.specs.Places.{Known, StaysKnown, IsKeptFrom, AreKeptAmong, AreFilesAt, InFolder, HasEnds}
use Rattle.commands.specs.Creating.{Creates}
use Rattle.commands.specs.Looking.{LooksInFolder}
use Rattle.commands.specs.Opening.{OpensToRead, OpensToChange, MayCleanUp}
use Rattle.commands.specs.RowLines.{AreRowTexts}
use Rattle.commands.specs.FileLines.{AreRefusedOf}
use Rattle.commands.specs.FoundTable.{FindsTable}
use Rattle.answers.specs.Appending.{AppendsRows}
use Rattle.answers.specs.Making.{lent_text}
use Rattle.commands.specs.Tasks.{lent_texts, first_file, PrintsAnswer, MakesInStyle, RunsBytes, RunsBytesToRefusal, GivesAnswer}
use Rattle.commands.specs.declared.watched.Watched.{Watched}

-- ---- questions

-- What a question prints of the dataset on a disk, which is opened to read it; or its opening is refused, and nothing is printed.
pub data Answers {D : Type 0} (state : D → DiskState) (call : Call) (question : Question) (before after : Option (List ℕ))
    (old new : D) (result : Result ⊤ Refusal) : Type 0 where
  answered : (store asked : Core D) → OpensToRead state old call.options (Ok store) → PrintsAnswer state call.texts store asked question before after result
      → new ≡ asked.vault.disk → Answers state call question before after old new result
  not_opened : (e : Refusal) → OpensToRead state old call.options (Err (new, e)) → after ≡ before → result ≡ Err e
      → Answers state call question before after old new result

-- What a sink gets of the dataset on a disk, which is opened to read it; or its opening is refused, and it gets nothing.
pub data Gives {D : Type 0} (state : D → DiskState) (call : Call) (question : Question) (most : Option ℕ) (was is : Option (List (List ℕ)))
    (old new : D) (result : Result ⊤ Refusal) : Type 0 where
  given : (store asked : Core D) → OpensToRead state old call.options (Ok store) → GivesAnswer state call.texts store asked question call.options most was is result
      → new ≡ asked.vault.disk → Gives state call question most was is old new result
  none_given : (e : Refusal) → OpensToRead state old call.options (Err (new, e)) → is ≡ was → result ≡ Err e → Gives state call question most was is old new result

-- ---- changes

-- the line of a disk that shows what it does is off the screen; the store is else as it was
abbrev pub IsUnshown : {D S : Type 0} → Core (Watched D S) → Core (Watched D S) → Type 0
IsUnshown old new = (new ≡ record old { vault = new.vault }) × (new.vault.disk.disk ≡ old.vault.disk.disk)

-- that a change is done is printed; one that is refused prints nothing
abbrev pub TellsDone : Result ℕ Refusal → Option (List ℕ) → Option (List ℕ) → Result ⊤ Refusal → Type 0
TellsDone (Ok rows) before after (Ok _) = Appends before after (codes "done " ++ decimal rows ++ codes "\n")
TellsDone (Ok rows) before after (Err e) = (e ≡ Memory) ⊎ (e ≡ Device)
TellsDone (Err e) before after result = (result ≡ Err e) × (after ≡ before)

-- what comes of the script of a call: all its calls are made, or those up to the first that is refused
abbrev pub RunsCalls : {D : Type 0} → (D → DiskState) → Bool → Bool → Core D → Core D → List ℕ → Option (List ℕ) → Option (List ℕ) → Result ⊤ Refusal → Type 0
RunsCalls state false texts old new bytes before after result = RunsBytes state texts old new bytes before after result
RunsCalls state true texts old new bytes before after result = RunsBytesToRefusal state texts old new bytes before after result

module _ {D S : Type 0} (state : D → DiskState) where
  -- what a disk is that shows what it does
  abbrev pub state_within : Watched D S → DiskState
  state_within watched = state watched.disk

  -- A store is changed so, and what came of it is printed.
  pub record Changes (Makes : Core (Watched D S) → Core (Watched D S) → Result ℕ Refusal → Type 0) (before after : Option (List ℕ))
      (old new : Core (Watched D S)) (result : Result ⊤ Refusal) : Type 0 where
    pub changed : Core (Watched D S)
    pub done : Result ℕ Refusal
    pub makes : Makes old changed done
    pub unshown : IsUnshown changed new
    pub told : TellsDone done before after result

  -- a store is changed as a call asks for, with the bytes of the files that it names
  abbrev pub ChangesAsAsked : Call → Change → List (List ℕ) → Option (List ℕ) → Option (List ℕ) → Core (Watched D S) → Core (Watched D S) → Result ⊤ Refusal
      → Type 0
  ChangesAsAsked call change files before after old new result =
      Changes (λ from to done. MakesInStyle state_within call.keeps_style call.texts from to change files done) before after old new result

  -- rows that were read for a table are appended as a call asks for
  abbrev pub ChangesByRows : Call → Option (List ℕ) → Root → List ValueTrees → Option (List ℕ) → Option (List ℕ) → Core (Watched D S) → Core (Watched D S)
      → Result ⊤ Refusal → Type 0
  ChangesByRows call unless root rows before after old new result =
      Changes (λ from to done. AppendsRows state_within call.texts root call.options rows unless from to done) before after old new result

  -- what a change or a script makes of a store; nothing else does
  abbrev pub ChangesStore : Call → Task → List (List ℕ) → Option (List ℕ) → Option (List ℕ) → Core (Watched D S) → Core (Watched D S) → Result ⊤ Refusal → Type 0
  ChangesStore call (ToChange change) files before after old new result = ChangesAsAsked call change files before after old new result
  ChangesStore call (Run script stops) files before after old new result = RunsCalls state_within stops call.texts old new (first_file files) before after result
  ChangesStore call _ files before after old new result = (new ≡ old) × (after ≡ before)

  -- What is made of the dataset on a disk: it is opened, keeps what is replaced, this comes of it, and it is cleaned. Or its opening is
  -- refused, and nothing is printed.
  pub data ChangesDisk (options : WriteOptions) (Comes : Core (Watched D S) → Core (Watched D S) → Result ⊤ Refusal → Type 0)
      (before after : Option (List ℕ)) (old new : Watched D S) (result : Result ⊤ Refusal) : Type 0 where
    changed : (opened changed cleaned : Core (Watched D S)) → OpensToChange state_within old options (Ok opened)
        → Comes (record opened { keeps = true }) changed result
        → MayCleanUp state_within changed cleaned → new ≡ cleaned.vault.disk → ChangesDisk options Comes before after old new result
    not_opened : (e : Refusal) → OpensToChange state_within old options (Err (new, e)) → after ≡ before → result ≡ Err e
        → ChangesDisk options Comes before after old new result

-- ---- a folder

-- the disk that is within one that shows what it does
abbrev pub disk_within : {D S : Type 0} → Watched D S → D
disk_within watched = watched.disk

-- What comes of a task on the dataset in a folder, by the task.
abbrev pub OnFolder : {D : Type 0} (S : Type 0) → (D → DiskState) → Known D → Known D → Call → Task → List (List ℕ) → Option (List ℕ) → Option (List ℕ)
    → Result ⊤ Refusal → Type 0
OnFolder {D} S state old new call (Ask question) files before after result =
    InFolder (disk_within {D = D} {S = S}) old new call.folder.now (Answers (state_within state) call question before after) (after ≡ before) result
OnFolder {D} S state old new call (ToChange change) files before after result =
    InFolder (disk_within {D = D} {S = S}) old new call.folder.now
    (ChangesDisk state call.options (ChangesStore state call call.task files before after) before after) (after ≡ before) result
OnFolder {D} S state old new call (Run script stops) files before after result =
    InFolder (disk_within {D = D} {S = S}) old new call.folder.now
    (ChangesDisk state call.options (ChangesStore state call call.task files before after) before after) (after ≡ before) result
OnFolder {D} S state old new call (LookAt look) files before after result =
    LooksInFolder (state_within {D = D} {S = S} state) (disk_within {D = D} {S = S}) old new call.folder.now call.texts look (first_file files) before after result
OnFolder {D} S state old new call (Create schema keys) files before after result =
    Creates (state_within {D = D} {S = S} state) (disk_within {D = D} {S = S}) old new call.folder.now call.options (first_file files) (lent_texts keys.items) result
    × (after ≡ before)

-- ---- files

-- the paths of the files that a task names
abbrev pub named_paths : Task → List (List ℕ)
named_paths (Create schema keys) = schema.now ∷ []
named_paths (Run script stops) = script.now ∷ []
named_paths (LookAt (Rows rows)) = rows.now ∷ []
named_paths (ToChange (Append rows unless)) = rows.now ∷ []
named_paths (ToChange (Import files unless)) = lent_texts files.items
named_paths (ToChange (AddColumn schema)) = schema.now ∷ []
named_paths _ = []

-- What comes of a task that is no append on the files that it names and on its folder; or some file is not had, nothing is printed and
-- nothing changes.
pub data OnFiles {D : Type 0} (S : Type 0) (state : D → DiskState) (old new : Known D) (call : Call)
    (before after : Option (List ℕ)) (result : Result ⊤ Refusal) : Type 0 where
  read : (files : List (List ℕ)) → AreFilesAt old (named_paths call.task) files → OnFolder S state old new call call.task files before after result
      → OnFiles S state old new call before after result
  unread : (e : Refusal) → AreKeptAmong old (named_paths call.task) e → StaysKnown old new → after ≡ before → result ≡ Err e
      → OnFiles S state old new call before after result

-- ---- an append

-- What comes of an append of the rows of a file's lines. Its table is looked up, and the lines are read for that, while the folder is not
-- used; the rows are then appended to the dataset that is in the folder by then, as the places in between have it. Or the file is not had,
-- or there is no table, or the lines are refused; then nothing is printed, and the folder is only read.
pub data AppendsLines {P D : Type 0} (S : Type 0) (state : D → DiskState) (known : P → Known D) (old new : Known D) (call : Call)
    (path : List ℕ) (unless : Option (List ℕ)) (before after : Option (List ℕ)) (result : Result ⊤ Refusal) : Type 0 where
  no_file : (e : Refusal) → IsKeptFrom old path e → StaysKnown old new → after ≡ before → result ≡ Err e
      → AppendsLines S state known old new call path unless before after result
  no_table : (e : Refusal) → InFolder (disk_within {D = D} {S = S}) old new call.folder.now (FindsTable (state_within state) call.options) ⊤ (Err e)
      → after ≡ before → result ≡ Err e → AppendsLines S state known old new call path unless before after result
  no_rows : (e : Refusal) (table : Manifest)
      → InFolder (disk_within {D = D} {S = S}) old new call.folder.now (FindsTable (state_within state) call.options) ⊤ (Ok table)
      → AreRefusedOf (old.is_shut path) (old.file path) call.texts (root_of table).schema e
      → after ≡ before → result ≡ Err e → AppendsLines S state known old new call path unless before after result
  lines_read : (mid : P) (table : Manifest) (bytes : List ℕ) (rows : List ValueTrees)
      → InFolder (disk_within {D = D} {S = S}) old (known mid) call.folder.now (FindsTable (state_within state) call.options) ⊤ (Ok table)
      → old.file path bytes → IsUtf8 bytes → AreRowTexts call.texts (root_of table).schema (lines bytes) rows
      → InFolder (disk_within {D = D} {S = S}) (known mid) new call.folder.now
      (ChangesDisk state call.options (ChangesByRows state call unless (root_of table) rows before after) before after) (after ≡ before) result
      → AppendsLines S state known old new call path unless before after result

-- the path of the rows that a task appends, and the filter that no row may satisfy; none where the task is no append
abbrev pub append_of : Task → Option (List ℕ × Option (List ℕ))
append_of (ToChange (Append rows unless)) = Some (rows.now, lent_text unless)
append_of _ = None

-- what comes of a call on the files that it names and on its folder: of an append, or of another task
abbrev pub OnFilesBy : {P D : Type 0} (S : Type 0) → (D → DiskState) → (P → Known D) → Known D → Known D → Call → Option (List ℕ × Option (List ℕ))
    → Option (List ℕ) → Option (List ℕ) → Result ⊤ Refusal → Type 0
OnFilesBy S state known old new call (Some asked) before after result = AppendsLines S state known old new call asked.0 asked.1 before after result
OnFilesBy S state known old new call None before after result = OnFiles S state old new call before after result

-- ---- a file in place of a folder

-- a file may be named in place of the folder
abbrev pub MayBeOfFile : Task → Type 0
MayBeOfFile (Ask Schema) = ⊤
MayBeOfFile (LookAt Files) = ⊤
MayBeOfFile _ = ⊥

-- what is printed of a file that is named in place of a folder: its columns, or that its text is a schema
abbrev pub PrintsOfFile : {D : Type 0} → Known D → List ℕ → Task → Option (List ℕ) → Option (List ℕ) → Result ⊤ Refusal → Type 0
PrintsOfFile known path (Ask Schema) before after result =
    OnOk result ((bytes : List ℕ) × HasEnds known path bytes
    × ((fs : Fields) × IsSchemaOfFile bytes fs × (ds : Items) × PrintsFields fs ds × Appends before after (compact_text (array ds) ++ 10 ∷ [])))
PrintsOfFile known path (LookAt Files) before after result =
    OnOk result ((bytes : List ℕ) × known.file path bytes × IsUtf8 bytes × (fs : Fields) × IsSchemaText bytes fs)
PrintsOfFile known path _ before after result = ⊥

-- What comes of a call that is not on a file with its filter: what it asks of its folder and files; or, where a file may be named in place of
-- the folder and there is none, what that is.
pub data ComesUnfiltered {P D : Type 0} (S : Type 0) (state : D → DiskState) (known : P → Known D) (old new : Known D) (call : Call)
    (before after : Option (List ℕ)) (result : Result ⊤ Refusal) : Type 0 where
  on_folder : OnFilesBy S state known old new call (append_of call.task) before after result → ComesUnfiltered S state known old new call before after result
  on_file : old.is_folder call.folder.now false → StaysKnown old new → PrintsOfFile old call.folder.now call.task before after result
      → ComesUnfiltered S state known old new call before after result

-- ---- filters in files

-- the filter that a task has by its words
abbrev pub filter_by_words : Task → Option (List ℕ)
filter_by_words (Ask (Query filter columns limit)) = lent_text filter
filter_by_words (Ask (Count filter)) = lent_text filter
filter_by_words (ToChange (Append rows unless)) = lent_text unless
filter_by_words (ToChange (Import files unless)) = lent_text unless
filter_by_words (ToChange (Remove filter)) = Some filter.now
filter_by_words _ = None

-- what follows a first `@`
abbrev pub after_at : List ℕ → Option (List ℕ)
after_at [] = None
after_at (c ∷ text) = if c == 64 then Some text else None

-- the path of the file that has the filter of a task, where its words name one
abbrev pub filter_path : Task → Option (List ℕ)
filter_path task = option_and_then after_at (filter_by_words task)

-- a task is another one, but for its filter, which is this text
abbrev pub HasFilter : Task → List ℕ → Task → Type 0
HasFilter (Ask (Query filter columns limit)) text (Ask (Query other names most)) =
    (lent_text other ≡ Some text) × (lent_texts names.items ≡ lent_texts columns.items) × (most ≡ limit)
HasFilter (Ask (Count filter)) text (Ask (Count other)) = lent_text other ≡ Some text
HasFilter (ToChange (Append rows unless)) text (ToChange (Append lines other)) = (lines.now ≡ rows.now) × (lent_text other ≡ Some text)
HasFilter (ToChange (Import files unless)) text (ToChange (Import paths other)) = (lent_texts paths.items ≡ lent_texts files.items) × (lent_text other ≡ Some text)
HasFilter (ToChange (Remove filter)) text (ToChange (Remove other)) = other.now ≡ text
HasFilter _ text _ = ⊥

-- a call is another one, but for its filter, which is this text
pub record IsFiltered (call : Call) (text : List ℕ) (asked : Call) : Type 0 where
  pub folder : asked.folder.now ≡ call.folder.now
  pub waits : asked.waits ≡ call.waits
  pub options : asked.options ≡ call.options
  pub keeps_style : asked.keeps_style ≡ call.keeps_style
  pub texts : asked.texts ≡ call.texts
  pub task : HasFilter call.task text asked.task

-- why the file of a filter gives none: it is not had, or it is no text
abbrev pub IsNoFilter : {D : Type 0} → Known D → List ℕ → Refusal → Type 0
IsNoFilter known path e = IsKeptFrom known path e ⊎ ((e ≡ Script) × (bytes : List ℕ) × known.file path bytes × (IsUtf8 bytes → ⊥))

-- What comes of a call with its filter. Where its words name a file for that, it is the call with the text of that file; or that gives no
-- filter, what the call is to change is unchanged, and so is all else.
pub data Filtered {D : Type 0} (old new : Known D) (call : Call) (ComesOf : Call → Type 0) (Unchanged : Type 0) (result : Result ⊤ Refusal)
    : Type 0 where
  as_asked : filter_path call.task ≡ None → ComesOf call → Filtered old new call ComesOf Unchanged result
  filtered : (path text : List ℕ) (asked : Call) → filter_path call.task ≡ Some path → old.file path text → IsUtf8 text → IsFiltered call text asked
      → ComesOf asked → Filtered old new call ComesOf Unchanged result
  no_filter : (path : List ℕ) (e : Refusal) → filter_path call.task ≡ Some path → IsNoFilter old path e → StaysKnown old new → Unchanged → result ≡ Err e
      → Filtered old new call ComesOf Unchanged result

-- what comes of a call, whose filter its words have or name a file of; where there is no filter nothing is printed
abbrev pub ComesFiltered : {P D : Type 0} (S : Type 0) → (D → DiskState) → (P → Known D) → Known D → Known D → Call → Option (List ℕ) → Option (List ℕ)
    → Result ⊤ Refusal → Type 0
ComesFiltered S state known old new call before after result =
    Filtered old new call (λ asked. ComesUnfiltered S state known old new asked before after result) (after ≡ before) result

-- ---- a call

-- what is returned where all that was printed is passed on at the end
abbrev pub IsPassedOn : Result ⊤ Refusal → Result ⊤ Refusal → Type 0
IsPassedOn (Ok _) (Ok _) = ⊤
IsPassedOn (Ok _) (Err e) = HasCause (λ f. f ≡ Device) e
IsPassedOn (Err e) result = result ≡ Err e

-- What comes of a call, and of the end of what is printed; or memory runs out before it.
pub data CallComes {P D : Type 0} (S : Type 0) (state : D → DiskState) (known : P → Known D) (old new : Known D) (call : Call)
    (before after : Option (List ℕ)) (result : Result ⊤ Refusal) : Type 0 where
  made : (printed : Option (List ℕ)) (made : Result ⊤ Refusal) → ComesFiltered S state known old new call before printed made → Keeps printed after
      → IsPassedOn made result → CallComes S state known old new call before after result
  no_memory : StaysKnown old new → after ≡ before → result ≡ Err Memory → CallComes S state known old new call before after result

-- ---- files of a query

-- What a sink gets of what is asked of the dataset in a folder. Or the folder cannot be used, or no files are asked for: then the sink
-- gets nothing, and nothing changes.
pub data GivesAsked {D : Type 0} (S : Type 0) (state : D → DiskState) (old new : Known D) (call : Call) (most : Option ℕ)
    (was is : Option (List (List ℕ))) (result : Result ⊤ Refusal) : Type 0 where
  of_question : (question : Question) → call.task ≡ Ask question
      → InFolder (disk_within {D = D} {S = S}) old new call.folder.now (Gives (state_within state) call question most was is) (is ≡ was) result
      → GivesAsked S state old new call most was is result
  not_asked : StaysKnown old new → is ≡ was → result ≡ Err Script → GivesAsked S state old new call most was is result

-- What a sink gets of a call, with its filter; or memory runs out before it.
pub data GivesCall {D : Type 0} (S : Type 0) (state : D → DiskState) (old new : Known D) (call : Call) (most : Option ℕ)
    (was is : Option (List (List ℕ))) (result : Result ⊤ Refusal) : Type 0 where
  gave : Filtered old new call (λ asked. GivesAsked S state old new asked most was is result) (is ≡ was) result
      → GivesCall S state old new call most was is result
  no_room : StaysKnown old new → is ≡ was → result ≡ Err Memory → GivesCall S state old new call most was is result

-- why a call gives no file: as a sink that had none is refused it, or it gave none or several
abbrev pub GivesNoFile : {D : Type 0} (S : Type 0) → (D → DiskState) → Known D → Known D → Call → Refusal → Type 0
GivesNoFile S state old new call e =
    ((is : Option (List (List ℕ))) × GivesCall S state old new call None (Some []) is (Err e))
    ⊎ ((files : List (List ℕ)) × GivesCall S state old new call None (Some []) (Some files) (Ok tt) × (length files ≢ 1) × (e ≡ Script))
