-- Calls of the program, by the words that they begin with.
use Rattle.std.specs.Prelude.{◌≡◌, ◌⊎◌, ℕ, Bool, true, List, [], ◌∷◌, Option, Some, None, String, string_bytes, codes, map}
use Rattle.bits.specs.declared.refusal.Refusal.{Refusal}
use Rattle.dataset_words.specs.declared.call.Call.{Call as DatasetCall}
use Rattle.dataset_words.specs.Words.{task_word}
use Rattle.dataset_words.specs.Inputs.{TaskReadsInputTwice}
use Rattle.columns.specs.Columns.{Columns}
use Rattle.program.specs.declared.arguments.Call.{Call}
use Rattle.program.specs.declared.arguments.Copying.{Copying}
use Rattle.program.specs.declared.arguments.Call.TheVariants.{Decode, Copy, Encode, Inspect, Check, Dataset, Save}
use Rattle.program.specs.Paths.{Place, Places, HasFront, IsFolder, IsFileRefusal, IsPlaceRefusal, IsUnwritten, PutsAt}
use Rattle.program.specs.Program.{WritesRowsUpTo, HasFaultUpTo, IsCopyOf, IsCopyRefusal, MakesFileOf, WritesCount}
use Rattle.program.specs.Program.{WritesReportAt, IsReportRefusal, AreRefusedSources, AreRefusedFiles}

-- the first of the words
abbrev pub first_word : {A : Type 0} → List (String A) → Option (List ℕ)
first_word [] = None
first_word (word ∷ words) = Some (string_bytes word)

-- the word that a call begins with
abbrev pub word_of : Call → List ℕ
word_of (Decode file limit texts) = codes "decode"
word_of (Copy copying) = codes "decode"
word_of (Encode sources file) = codes "encode"
word_of (Inspect file as_json table) = codes "inspect"
word_of (Check sources table) = codes "check"
word_of (Dataset call) = task_word call.task
word_of (Save call path) = task_word call.task

-- standard output got the lines of the rows of the file that is there, of all or of the first so many, with texts of dates, times,
-- timestamps and decimals or without
abbrev pub DecodesAt : Place → Bool → Option ℕ → Option (List ℕ) → Option (List ℕ) → Type 0
DecodesAt place texts limit old new = (bytes : List ℕ) × HasFront place bytes × WritesRowsUpTo texts limit bytes old new

-- why it did not
abbrev pub RefusesDecoding : Place → Option ℕ → Option (List ℕ) → Option (List ℕ) → Refusal → Type 0
RefusesDecoding place limit old new e = IsFileRefusal place (HasFaultUpTo limit) e × IsUnwritten old new e

-- the columns of these names; where there are none, all
abbrev pub columns_of : List (List ℕ) → Columns
columns_of [] = None
columns_of (name ∷ names) = Some (name ∷ names)

-- the columns that a file is to be made of
abbrev pub columns_asked : Copying → Columns
columns_asked copying = columns_of (map (λ name. name.now) copying.columns.items)

-- the bytes of a file mean the rows of another one, as they are asked for
abbrev pub IsCopyAsked : Copying → List ℕ → List ℕ → Type 0
IsCopyAsked copying bytes copy = IsCopyOf copying.options (columns_asked copying) copying.limit bytes copy

-- a file was made of the rows of the one at a path, as they are asked for
abbrev pub CopiesAsked : Places → Places → Copying → Option (List ℕ) → Option (List ℕ) → Type 0
CopiesAsked files after copying old new =
    (bytes copy : List ℕ) × HasFront (files copying.file.now) bytes × IsCopyAsked copying bytes copy × PutsAt files after copying.path.now copy old new

-- why it was not
abbrev pub RefusesCopying : Places → Copying → Option (List ℕ) → Option (List ℕ) → Refusal → Type 0
RefusesCopying files copying old new e =
    (IsPlaceRefusal (files copying.path.now) e ⊎ IsFileRefusal (files copying.file.now) (IsCopyRefusal copying.limit) e)
    × IsUnwritten old new e

-- what is printed of a call on a dataset
abbrev pub Printing : Type 1
Printing = DatasetCall → Option (List ℕ) → Option (List ℕ) → Type 0

-- why a call on a dataset is refused, and what is printed of it then
abbrev pub Refusing : Type 1
Refusing = DatasetCall → Option (List ℕ) → Option (List ℕ) → Refusal → Type 0

-- what files are asked of a dataset: the bytes of those that their taker had, and has then, where these are known
abbrev pub Giving : Type 1
Giving = DatasetCall → Option (List (List ℕ)) → Option (List (List ℕ)) → Type 0

-- why there are no files of it
abbrev pub Withholding : Type 1
Withholding = DatasetCall → Refusal → Type 0

-- a file was made of what is asked of a dataset; or files were, in a folder, and standard output got nothing
abbrev pub Saves : Giving → Places → Places → DatasetCall → List ℕ → Option (List ℕ) → Option (List ℕ) → Type 0
Saves Gives files after call path old new =
    ((file : List ℕ) × Gives call (Some []) (Some (file ∷ [])) × PutsAt files after path file old new)
    ⊎ (IsFolder (files path) × ((was is : Option (List (List ℕ))) × Gives call was is) × (new ≡ old))

-- why it was not; of files in a folder, also why one was not made, which nothing here says
abbrev pub RefusesSaving : Withholding → Places → DatasetCall → List ℕ → Option (List ℕ) → Option (List ℕ) → Refusal → Type 0
RefusesSaving Withholds files call path old new e = (IsPlaceRefusal (files path) e ⊎ (Withholds call e ⊎ IsFolder (files path))) × IsUnwritten old new e

-- What a call that is done does to standard output, and to the files at paths. What is printed of a dataset, also where `inspect` and
-- `check` are given its folder, is for another to say.
abbrev pub Does : Printing → Giving → Places → Places → Call → Option (List ℕ) → Option (List ℕ) → Type 0
Does Prints Gives files after (Decode file limit texts) old new = DecodesAt (files file.now) texts limit old new
Does Prints Gives files after (Copy copying) old new = CopiesAsked files after copying old new
Does Prints Gives files after (Encode sources file) old new =
    (new ≡ old) × MakesFileOf sources.texts sources.options files after sources.schema.now sources.rows.now file.now
Does Prints Gives files after (Inspect file as_json table) old new = WritesReportAt (files file.now) old new ⊎ (IsFolder (files file.now) × Prints table old new)
Does Prints Gives files after (Check sources table) old new =
    WritesCount sources.texts sources.options (files sources.schema.now) (files sources.rows.now) old new
    ⊎ (IsFolder (files sources.schema.now) × Prints table old new)
Does Prints Gives files after (Dataset call) old new = Prints call old new
Does Prints Gives files after (Save call path) old new = Saves Gives files after call path.now old new

-- Why a call is refused, and what standard output has then: but for Memory and Device nothing new, where the call is not on a dataset.
abbrev pub RefusesAsked : Refusing → Withholding → Places → Call → Option (List ℕ) → Option (List ℕ) → Refusal → Type 0
RefusesAsked Fails Withholds files (Decode file limit texts) old new e = RefusesDecoding (files file.now) limit old new e
RefusesAsked Fails Withholds files (Copy copying) old new e = RefusesCopying files copying old new e
RefusesAsked Fails Withholds files (Encode sources file) old new e =
    AreRefusedFiles sources.texts sources.options (files sources.schema.now) (files sources.rows.now) (files file.now) e × (new ≡ old)
RefusesAsked Fails Withholds files (Inspect file as_json table) old new e =
    (IsReportRefusal (files file.now) e × IsUnwritten old new e) ⊎ (IsFolder (files file.now) × Fails table old new e)
RefusesAsked Fails Withholds files (Check sources table) old new e =
    (AreRefusedSources sources.texts sources.options (files sources.schema.now) (files sources.rows.now) e × IsUnwritten old new e)
    ⊎ (IsFolder (files sources.schema.now) × Fails table old new e)
RefusesAsked Fails Withholds files (Dataset call) old new e = Fails call old new e
RefusesAsked Fails Withholds files (Save call path) old new e = RefusesSaving Withholds files call path.now old new e

-- a call makes no file at a path
abbrev pub MakesNoFile : Call → Type 0
MakesNoFile (Decode file limit texts) = Unit {0}
MakesNoFile (Inspect file as_json table) = Unit {0}
MakesNoFile (Check sources table) = Unit {0}
MakesNoFile (Dataset call) = Unit {0}
MakesNoFile _ = ⊥

-- a call reads standard input for two of its files
abbrev pub ReadsInputTwice : Call → Type 0
ReadsInputTwice (Encode sources file) = (sources.schema.now ≡ codes "-") × (sources.rows.now ≡ codes "-")
ReadsInputTwice (Check sources table) = (sources.schema.now ≡ codes "-") × (sources.rows.now ≡ codes "-")
ReadsInputTwice (Dataset call) = TaskReadsInputTwice call.task
ReadsInputTwice (Save call path) = TaskReadsInputTwice call.task
ReadsInputTwice _ = ⊥

-- a call asks for texts, and for the bytes of a file on standard output
abbrev pub PrintsTextsAsBytes : Call → Type 0
PrintsTextsAsBytes (Save call path) = (call.texts ≡ true) × (path.now ≡ codes "-")
PrintsTextsAsBytes _ = ⊥

-- a call gives standard output the bytes of a file
abbrev pub PutsToOutput : Call → Type 0
PutsToOutput (Copy copying) = copying.path.now ≡ codes "-"
PutsToOutput (Save call path) = path.now ≡ codes "-"
PutsToOutput _ = ⊥
