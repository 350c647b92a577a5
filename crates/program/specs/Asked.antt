-- What words ask for: each part of a call is what the parser found for the argument that is named here.
use Rattle.std.specs.Prelude.{◌≡◌, ◌⊎◌, ℕ, Bool, true, List, Option, Some, None, String, codes}
use Rattle.std.specs.Borrow.{Bor}
use Rattle.clap.specs.declared.parser.matches.Found.{Found}
use Rattle.bits.specs.declared.refusal.Refusal.{Refusal}
use Rattle.bits.specs.declared.refusal.Refusal.TheVariants.{Memory}
use Rattle.dataset_words.specs.Asked.{LacksPart}
use Rattle.dataset_words.specs.Asked.{Lacks, HasFlag, HasText, MayHaveText, HasTexts, MayHaveNumber, HasNumberOr, HasOptions, IsStandard, IsCallOf, IsLookCall}
use Rattle.dataset_words.specs.declared.call.Call.{Call as DatasetCall}
use Rattle.dataset_words.specs.declared.options.Styles.{Styles}
use Rattle.dataset_words.specs.declared.call.Look.TheVariants.{Survey, Files, Rows}
use Rattle.program.specs.CommandLine.{Finds, FindsBy, AreNotTaken}
use Rattle.program.specs.Paths.{Places}
use Rattle.program.specs.RefusalLine.{WritesRefusal}
use Rattle.program.specs.Words.{Printing, Refusing, Giving, Withholding, Does, RefusesAsked, first_word, word_of}
use Rattle.program.specs.Words.{MakesNoFile, ReadsInputTwice, PrintsTextsAsBytes, PutsToOutput}
use Rattle.program.specs.declared.encode.Sources.{Sources}
use Rattle.program.specs.declared.arguments.Request.{Request}
use Rattle.program.specs.declared.arguments.Call.{Call}
use Rattle.program.specs.declared.arguments.Call.TheVariants.{Decode, Copy, Encode, Inspect, Check, Dataset, Save}
use Rattle.program.specs.declared.arguments.Copying.{Copying}

-- the rows of a file, as lines
abbrev pub IsDecoding : Found → Bor (List ℕ) → Option ℕ → Bool → Type 0
IsDecoding found file limit texts =
    HasText found (codes "FILE") file × MayHaveNumber found 64 (codes "limit") limit × HasFlag found (codes "text") texts × MayHaveText found (codes "out") None

-- the rows of a file, as another one
abbrev pub IsCopying : Found → Copying → Type 0
IsCopying found copying =
    HasText found (codes "FILE") copying.file × HasText found (codes "out") copying.path × HasTexts found (codes "columns") copying.columns.items
    × MayHaveNumber found 64 (codes "limit") copying.limit × HasOptions found copying.options

-- a file of a schema and rows
abbrev pub IsEncoding : Found → Sources → Bor (List ℕ) → Type 0
IsEncoding found sources file =
    HasText found (codes "SCHEMA") sources.schema × HasText found (codes "ROWS") sources.rows × HasText found (codes "OUT") file × HasOptions found sources.options
    × HasFlag found (codes "text") sources.texts

-- what a file is; or, of a folder, what the dataset in it has
abbrev pub IsInspection : Found → Bor (List ℕ) → Bool → DatasetCall → Type 0
IsInspection found file as_json table =
    HasText found (codes "FILE") file × HasFlag found (codes "json") as_json
    × ((min_rows : ℕ) × HasNumberOr found 64 (codes "min-rows") 65536 min_rows × IsLookCall found file (Survey min_rows as_json) table)

-- whether a schema and rows have a file; or, of a folder, whether the rows are of the dataset in it
abbrev pub IsChecking : Found → Sources → DatasetCall → Type 0
IsChecking found sources table =
    HasText found (codes "SCHEMA") sources.schema × HasText found (codes "ROWS") sources.rows × IsStandard sources.options × HasFlag found (codes "text") sources.texts
    × IsLookCall found sources.schema (Rows sources.rows) table

-- whether the files of a dataset are as it says
abbrev pub ChecksFiles : Found → DatasetCall → Type 0
ChecksFiles found call = (folder : Bor (List ℕ)) × HasText found (codes "SCHEMA") folder × MayHaveText found (codes "ROWS") None × IsLookCall found folder Files call

-- by what was found for the arguments of a command, it asks for this call
abbrev pub AsksFor : List ℕ → Found → Call → Type 0
AsksFor command found (Decode file limit texts) = IsDecoding found file limit texts
AsksFor command found (Copy copying) = IsCopying found copying
AsksFor command found (Encode sources file) = IsEncoding found sources file
AsksFor command found (Inspect file as_json table) = IsInspection found file as_json table
AsksFor command found (Check sources table) = IsChecking found sources table
AsksFor command found (Dataset call) = (IsCallOf command found call × MayHaveText found (codes "out") None) ⊎ ChecksFiles found call
AsksFor command found (Save call path) = IsCallOf command found call × HasText found (codes "out") path

-- these words ask for this call, and whether for no progress
pub record AreAsking {A : Type 0} (words : List (String A)) (request : Request) : Type 0 where
  pub found : Found
  pub finds : Finds words (word_of request.call) found
  pub first : first_word words ≡ Some (word_of request.call)
  pub asks : AsksFor (word_of request.call) found request.call
  pub quiet : HasFlag found (codes "quiet") request.quiet

-- ---- words that ask for no call

-- why a command makes no call: something that it needs was not found, or it is no command
pub data LacksWord (word : List ℕ) (found : Found) : Type 0 where
  no_file : (word ≡ codes "decode") ⊎ (word ≡ codes "inspect") → Lacks found (codes "FILE") → LacksWord word found
  no_schema : (word ≡ codes "encode") ⊎ (word ≡ codes "check") → Lacks found (codes "SCHEMA") → LacksWord word found
  no_rows : word ≡ codes "encode" → Lacks found (codes "ROWS") → LacksWord word found
  no_out : word ≡ codes "encode" → Lacks found (codes "OUT") → LacksWord word found
  of_dataset : LacksPart word found → LacksWord word found

-- the command that is found in words makes no call
pub record HaveNoCall {A : Type 0} (styles : Styles) (words : List (String A)) : Type 0 where
  pub word : List ℕ
  pub found : Found
  pub first : first_word words ≡ Some word
  pub finds : FindsBy styles words word found
  pub lacks : LacksWord word found

-- in these words no command is found that they begin with
abbrev pub HaveNoCommand : {A : Type 0} → Styles → List (String A) → Type 0
HaveNoCommand styles words = (word : List ℕ) (found : Found) → first_word words ≡ Some word → FindsBy styles words word found → ⊥

-- Words ask for no call: the parser does not take them, or they begin with no command that it finds, or what that needs is not there. (The
-- last two do not come where the parser sees to it that what is required is there.)
abbrev pub AskForNone : {A : Type 0} → List (String A) → Type 0
AskForNone words = (styles : Styles) × (AreNotTaken styles words ⊎ (HaveNoCommand styles words ⊎ HaveNoCall styles words))

-- these words ask for a call that is wrong though each of them is right
pub record AskForWrong {A : Type 0} (words : List (String A)) : Type 0 where
  pub request : Request
  pub asked : AreAsking words request
  pub wrong : ReadsInputTwice request.call ⊎ PrintsTextsAsBytes request.call

-- these words ask for the bytes of a file on standard output
pub record AskForBytes {A : Type 0} (words : List (String A)) : Type 0 where
  pub request : Request
  pub asked : AreAsking words request
  pub puts : PutsToOutput request.call

-- why words are no call, so that the program's use is told: they ask for none, or for a wrong one
abbrev pub AreNoCall : {A : Type 0} → List (String A) → Type 0
AreNoCall words = AskForNone words ⊎ AskForWrong words

-- why nothing is done for words: they are no call, or the bytes of a file would go to a terminal
abbrev pub AreUnused : {A : Type 0} → List (String A) → Bool → Type 0
AreUnused words to_terminal = AreNoCall words ⊎ ((to_terminal ≡ true) × AskForBytes words)

-- ---- calls

-- The words ask for a call, which is done: this is what it did to standard output and to the files at paths; and standard error has
-- nothing new where no progress was to be shown.
pub record IsDone {A : Type 0} (Prints : Printing) (Gives : Giving) (files after : Places) (words : List (String A))
    (old new err_old err_new : Option (List ℕ)) : Type 0 where
  pub request : Request
  pub asked : AreAsking words request
  pub does : Does Prints Gives files after request.call old new
  pub kept : MakesNoFile request.call → after ≡ files
  pub silent : request.quiet ≡ true → err_new ≡ err_old

-- the words ask for a call, which is refused so
pub record IsCallRefused {A : Type 0} (Fails : Refusing) (Withholds : Withholding) (files after : Places) (words : List (String A))
    (old new : Option (List ℕ)) (e : Refusal) : Type 0 where
  pub request : Request
  pub asked : AreAsking words request
  pub refused : RefusesAsked Fails Withholds files request.call old new e
  pub kept : MakesNoFile request.call → after ≡ files

-- what words ask for could not be read, for there was no memory
abbrev pub AreUnread : Places → Places → Option (List ℕ) → Option (List ℕ) → Refusal → Type 0
AreUnread files after old new e = (e ≡ Memory) × (new ≡ old) × (after ≡ files)

-- The words ask for a call, which is refused, or were not read for lack of memory. Where it could be written, the last line of standard
-- error says `refused`, and the number and the name of this refusal: it came after what standard error had before that line.
pub record EndsRefused {A Writer : Type 0} (Fails : Refusing) (Withholds : Withholding) (files after : Places) (words : List (String A))
    (old new : Option (List ℕ)) (is_told : Bool) (contents : Writer → Option (List ℕ)) (err : Writer) : Type 0 where
  pub refusal : Refusal
  pub why : IsCallRefused Fails Withholds files after words old new refusal ⊎ AreUnread files after old new refusal
  pub before : Writer
  pub told : is_told ≡ true → WritesRefusal refusal (contents before) (contents err)
