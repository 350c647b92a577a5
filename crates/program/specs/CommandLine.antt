-- The program's command line as its parser reads it, and what the parser finds in words.
use Rattle.std.specs.Prelude.{◌≡◌, ◌∷◌, [], ℕ, List, Some, true, String, string_bytes, codes, map}
use Rattle.clap.specs.Lexer.{usize_max}
use Rattle.clap.specs.Walk.{Rule, rows_of}
use Rattle.clap.specs.Simple.{App, new_app, new_rule, with_rule, subcommand_of, subcommand_rows_of}
use Rattle.clap.specs.Takes.{takes}
use Rattle.clap.specs.declared.builder.action.ArgAction.TheVariants.{Set, Append}
use Rattle.clap.specs.declared.parser.matches.ArgMatches.{ArgMatches}
use Rattle.clap.specs.declared.parser.matches.Found.{Found}
use Rattle.dataset_words.specs.CommandLine.{named, flag, option, of_u64, bound, with_rules, waiting, with_progress, with_commands, with_dataset_commands}
use Rattle.dataset_words.specs.declared.options.Styles.{Styles}

-- the columns that a file is made of
abbrev pub wanted_columns : Rule
wanted_columns = record (option (codes "columns")) { action = Some Append; range = Some (record { start_inclusive = 1; end_inclusive = usize_max }) }

-- a file that may be named
abbrev pub may_be_named : List ℕ → Rule
may_be_named id = record (new_rule id) { action = Some Set }

-- a file as lines, or as another file: which rows and columns, and how it is written
abbrev pub decode : Styles → App
decode styles = with_progress styles.words (with_rules (new_app (codes "decode")) (
    named (codes "FILE")
    ∷ of_u64 (option (codes "limit"))
    ∷ bound wanted_columns
    ∷ option (codes "out")
    ∷ bound (flag (codes "text"))
    ∷ []
    ))

-- a schema and rows, and the file that they become
abbrev pub encode : Styles → App
encode styles = with_progress styles.words (with_rules (new_app (codes "encode")) (
    named (codes "SCHEMA")
    ∷ named (codes "ROWS")
    ∷ named (codes "OUT")
    ∷ flag (codes "text")
    ∷ []
    ))

-- a file or a folder, and how what is found is shown
abbrev pub inspect : App
inspect = waiting (with_rules (new_app (codes "inspect")) (named (codes "FILE") ∷ flag (codes "json") ∷ of_u64 (option (codes "min-rows")) ∷ []))

-- a schema or a folder, and perhaps rows
abbrev pub check : App
check =
    with_rule (waiting (with_rules (new_app (codes "check")) (named (codes "SCHEMA") ∷ may_be_named (codes "ROWS") ∷ flag (codes "text") ∷ []))) (flag (codes "quiet"))

-- the program, whose first word is a command's
abbrev pub bare : App
bare =
    let app = new_app (codes "pqds") in
    record app {
      top = record app.top {
        no_binary_name = true;
        disable_help_subcommand = true;
        has_version = true;
        arg_required_else_help = true;
        subcommand_required = true;
      };
    }

-- the program with all of its commands
abbrev pub command_line : Styles → App
command_line styles = with_dataset_commands styles (with_commands bare (decode styles ∷ encode styles ∷ inspect ∷ check ∷ []))

-- with these words for the styles, the program's parser finds in these words this command, and this for its arguments
abbrev pub FindsBy : {A : Type 0} → Styles → List (String A) → List ℕ → Found → Type 0
FindsBy styles words command found = subcommand_of (command_line styles) (map string_bytes words) ≡ Some (command, rows_of found)

-- In these words the program's parser finds this command, and this for its arguments. (The words for the styles say which are refused.)
abbrev pub Finds : {A : Type 0} → List (String A) → List ℕ → Found → Type 0
Finds words command found = (styles : Styles) × FindsBy styles words command found

-- with these words for the styles, the parser's matches are those of these words
abbrev pub AreMatchesBy : {A : Type 0} → Styles → List (String A) → ArgMatches → Type 0
AreMatchesBy styles words matches = subcommand_rows_of matches ≡ subcommand_of (command_line styles) (map string_bytes words)

-- The parser does not take these words, by its own definition of when it does. That takes no words of a command of which an argument
-- excludes or needs another one: of the commands here it can take those of `encode` only.
abbrev pub AreNotTaken : {A : Type 0} → Styles → List (String A) → Type 0
AreNotTaken styles words = takes (command_line styles) (map string_bytes words) ≡ true → ⊥
