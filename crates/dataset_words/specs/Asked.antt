-- What the words of a command ask for: each part of a call is what the parser found for the argument that is named here.
use Rattle.std.specs.Prelude.{◌≡◌, ◌⊎◌, ◌↔◌, ◌<◌, ◌^◌, ⊤, ℕ, Bool, true, false, IsTrue, List, [], Contains}
use Rattle.std.specs.Prelude.{Option, Some, None, codes, map, option_map, unwrap_or, SomeIff}
use Rattle.std.specs.Option.{option_map_or, option_or}
use Rattle.std.specs.List.{AllZip}
use Rattle.std.specs.Borrow.{Bor}
use Rattle.std.specs.Str.Parse.{IsNumeral, digits_value, without_leading_plus}
use Rattle.clap.specs.declared.parser.matches.ArgMatches.{ArgMatches}
use Rattle.clap.specs.declared.parser.matches.Found.{Found}
use Rattle.clap.specs.Matches.{matched_of, first_value, one_text, raw_values}
use Rattle.clap.specs.Walk.{rows_of}
use Rattle.clap.specs.Simple.{subcommand_rows_of}
use Rattle.footer.specs.declared.options.WriteOptions.{WriteOptions}
use Rattle.row_group.specs.declared.options.Style.TheVariants.{Plain}
use Rattle.dataset_words.specs.Flags.{IsFlag}
use Rattle.dataset_words.specs.Styles.{style_named}
use Rattle.dataset_words.specs.Words.{task_word, is_task_word}
use Rattle.dataset_words.specs.declared.call.Call.{Call}
use Rattle.dataset_words.specs.declared.call.Task.{Task}
use Rattle.dataset_words.specs.declared.call.Task.TheVariants.{Create, Ask, Change as ToChange, Look as LookAt, Run}
use Rattle.dataset_words.specs.declared.call.Question.{Question}
use Rattle.dataset_words.specs.declared.call.Question.TheVariants.{Query, Count, Groups, Schema}
use Rattle.dataset_words.specs.declared.call.Change.{Change}
use Rattle.dataset_words.specs.declared.call.Change.TheVariants.{Append, Import, AddColumn, Remove, RemoveGroups, Rewrite, RewriteSmall, RewriteAll}
use Rattle.dataset_words.specs.declared.call.Look.{Look}
use Rattle.dataset_words.specs.declared.call.Look.TheVariants.{Survey, Files, Rows}

-- ---- what was found for one argument

-- a flag
abbrev pub HasFlag : Found → List ℕ → Bool → Type 0
HasFlag found name flag = IsFlag (one_text found name) flag

-- the text of an argument
abbrev pub HasText : Found → List ℕ → Bor (List ℕ) → Type 0
HasText found name text = Some text.now ≡ first_value found name

-- the text of an argument that may be left out
abbrev pub MayHaveText : Found → List ℕ → Option (Bor (List ℕ)) → Type 0
MayHaveText found name text = option_map (λ t. t.now) text ≡ first_value found name

-- all texts of an argument, in their order
abbrev pub texts_of : Found → List ℕ → List (List ℕ)
texts_of found name = option_map_or raw_values (matched_of found name) []

-- the texts of an argument, in their order
abbrev pub HasTexts : Found → List ℕ → List (Bor (List ℕ)) → Type 0
HasTexts found name texts = map (λ t. t.now) texts ≡ texts_of found name

-- the number that a text is, in decimal digits after a plus or no sign, and below 2 to the power `bits`; none where it is no such number
abbrev pub IsNumber : ℕ → Option (List ℕ) → Option ℕ → Type 0
IsNumber bits None number = number ≡ None
IsNumber bits (Some text) number =
    let digits = without_leading_plus text in SomeIff number (IsNumeral 10 digits × (digits_value 10 digits < 2 ^ bits)) (digits_value 10 digits)

-- the number of an argument that may be left out
abbrev pub MayHaveNumber : Found → ℕ → List ℕ → Option ℕ → Type 0
MayHaveNumber found bits name number = IsNumber bits (one_text found name) number

-- the number of an argument, or else another one
abbrev pub HasNumberOr : Found → ℕ → List ℕ → ℕ → ℕ → Type 0
HasNumberOr found bits name other number = (given : Option ℕ) × MayHaveNumber found bits name given × (number ≡ unwrap_or given other)

-- all numbers of an argument, one of each text and in their order
abbrev pub AreNumbers : ℕ → List (List ℕ) → List ℕ → Type 0
AreNumbers bits = AllZip (λ text number. IsNumber bits (Some text) (Some number))

-- the numbers of an argument, in their order
abbrev pub HasNumbers : Found → ℕ → List ℕ → List ℕ → Type 0
HasNumbers found bits name numbers = AreNumbers bits (texts_of found name) numbers

-- ---- the parts of a call

-- the folder; of `schema` it may be a file
abbrev pub HasFolder : Found → Option (List ℕ) → Type 0
HasFolder found folder = folder ≡ option_or (first_value found (codes "DIR")) (first_value found (codes "PATH"))

-- how files are written; what is not said is as in the standard options
abbrev pub HasOptions : Found → WriteOptions → Type 0
HasOptions found options =
    HasNumberOr found 32 (codes "group-rows") 131072 options.group_rows
    × HasNumberOr found 32 (codes "page-rows") 20000 options.page_rows
    × HasNumberOr found 8 (codes "page-version") 1 options.page_version
    × (options.style ≡ style_named (first_value found (codes "style")))

-- the standard options
abbrev pub IsStandard : WriteOptions → Type 0
IsStandard options = (options.group_rows ≡ 131072) × (options.page_rows ≡ 20000) × (options.page_version ≡ 1) × (options.style ≡ Plain)

-- whether files are written in the style of what is there
abbrev pub KeepsStyle : Found → Bool → Type 0
KeepsStyle found keeps = IsTrue keeps ↔ (first_value found (codes "style") ≡ Some (codes "keep"))

-- how long a call waits, by what `--no-wait` and `--wait` say
abbrev pub WaitsBy : Bool → Found → Option ℕ → Type 0
WaitsBy true found waits = waits ≡ Some 0
WaitsBy false found waits = MayHaveNumber found 64 (codes "wait") waits

-- how long a call waits, by the words
abbrev pub HasWaiting : Found → Option ℕ → Type 0
HasWaiting found waits = (no_wait : Bool) × HasFlag found (codes "no-wait") no_wait × WaitsBy no_wait found waits

-- what is asked of a dataset
abbrev pub HasQuestion : Found → Question → Type 0
HasQuestion found (Query filter columns limit) =
    MayHaveText found (codes "filter") filter × HasTexts found (codes "COLUMN") columns.items × MayHaveNumber found 64 (codes "limit") limit
HasQuestion found (Count filter) = MayHaveText found (codes "filter") filter
HasQuestion found (Groups stats) = HasFlag found (codes "stats") stats
HasQuestion found Schema = ⊤

-- what is to be changed in it
abbrev pub HasChange : Found → Change → Type 0
HasChange found (Append rows unless) = HasText found (codes "ROWS") rows × MayHaveText found (codes "unless") unless
HasChange found (Import files unless) = HasTexts found (codes "FILE") files.items × MayHaveText found (codes "unless") unless
HasChange found (AddColumn schema) = HasText found (codes "SCHEMA") schema
HasChange found (Remove filter) = HasText found (codes "filter") filter
HasChange found (RemoveGroups numbers) = MayHaveText found (codes "filter") None × HasNumbers found 64 (codes "NUMBER") numbers.items
HasChange found (Rewrite numbers) =
    HasFlag found (codes "all") false × MayHaveNumber found 64 (codes "min-rows") None × HasNumbers found 64 (codes "NUMBER") numbers.items
HasChange found (RewriteSmall min_rows) = HasFlag found (codes "all") false × MayHaveNumber found 64 (codes "min-rows") (Some min_rows)
HasChange found RewriteAll = HasFlag found (codes "all") true

-- what is to be said of its folder
abbrev pub HasLook : Found → Look → Type 0
HasLook found (Survey min_rows as_json) = HasNumberOr found 64 (codes "min-rows") 65536 min_rows × HasFlag found (codes "json") as_json
HasLook found Files = MayHaveText found (codes "ROWS") None
HasLook found (Rows rows) = HasText found (codes "ROWS") rows

-- what is to be done
abbrev pub HasTask : Found → Task → Type 0
HasTask found (Create schema keys) = HasText found (codes "SCHEMA") schema × HasTexts found (codes "KEY") keys.items
HasTask found (Ask question) = HasQuestion found question
HasTask found (ToChange change) = HasChange found change
HasTask found (LookAt look) = HasLook found look
HasTask found (Run script stops) = HasText found (codes "SCRIPT") script × HasFlag found (codes "stop") stops

-- ---- a call

-- by what was found for its arguments, a command asks for this call
pub record IsCallOf (word : List ℕ) (found : Found) (call : Call) : Type 0 where
  pub command : task_word call.task ≡ word
  pub folder : HasFolder found (Some call.folder.now)
  pub task : HasTask found call.task
  pub waits : HasWaiting found call.waits
  pub options : HasOptions found call.options
  pub keeps_style : KeepsStyle found call.keeps_style
  pub texts : HasFlag found (codes "text") call.texts

-- a call that looks at a folder, by what was found for the other arguments
pub record IsLookCall (found : Found) (folder : Bor (List ℕ)) (look : Look) (call : Call) : Type 0 where
  pub folder_is : call.folder ≡ folder
  pub task : call.task ≡ LookAt look
  pub waits : HasWaiting found call.waits
  pub options : IsStandard call.options
  pub keeps_style : call.keeps_style ≡ false
  pub texts : HasFlag found (codes "text") call.texts

-- nothing was found for an argument
abbrev pub Lacks : Found → List ℕ → Type 0
Lacks found name = first_value found name ≡ None

-- one of these texts is no number of 64 bits
abbrev pub HasNoNumber : List (List ℕ) → Type 0
HasNoNumber texts = (text : List ℕ) × Contains texts text × IsNumber 64 (Some text) None

-- why a command makes no call on a dataset: it is none of those commands, or the folder was not found, or the file that it needs, or what
-- is to be a group's number is none
pub data LacksPart (word : List ℕ) (found : Found) : Type 0 where
  no_command : is_task_word word ≡ false → LacksPart word found
  no_folder : HasFolder found None → LacksPart word found
  no_rows : word ≡ codes "append" → Lacks found (codes "ROWS") → LacksPart word found
  no_schema : (word ≡ codes "create") ⊎ (word ≡ codes "add-column") → Lacks found (codes "SCHEMA") → LacksPart word found
  no_script : word ≡ codes "run" → Lacks found (codes "SCRIPT") → LacksPart word found
  no_number : (word ≡ codes "remove") ⊎ (word ≡ codes "rewrite") → HasNoNumber (texts_of found (codes "NUMBER")) → LacksPart word found

-- a word is none of those of some commands, or its command makes no call
abbrev pub HasNone : Bool → List ℕ → Found → Type 0
HasNone is_known word found = (is_known ≡ false) ⊎ LacksPart word found

-- the words name this command, and this was found for its arguments
abbrev pub HasMet : ArgMatches → List ℕ → Found → Type 0
HasMet matches word found = subcommand_rows_of matches ≡ Some (word, rows_of found)
