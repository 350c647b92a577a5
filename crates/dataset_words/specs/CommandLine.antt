-- The commands on a dataset as the parser of the command line reads them: their arguments, and what each takes.
use Rattle.std.specs.Prelude.{◌≡◌, ◌∷◌, [], ℕ, List, Some, true, false, pos, codes}
use Rattle.std.specs.Borrow.{Bor}
use Rattle.clap.specs.Lexer.{usize_max}
use Rattle.clap.specs.Walk.{Rule, Text, rule_of}
use Rattle.clap.specs.Simple.{App, app_of, new_app, new_rule, with_rule, with_subcommand}
use Rattle.clap.specs.declared.builder.action.ArgAction.TheVariants.{Set, Append, SetTrue}
use Rattle.clap.specs.declared.builder.arg.Arg.{Arg}
use Rattle.clap.specs.declared.builder.command.Command.{Command}
use Rattle.clap.specs.declared.builder.command.Command.TheViews.{out-Command as fields_of}
use Rattle.clap.specs.declared.builder.value_parser.ValueParser.TheVariants as parser
use Rattle.dataset_words.specs.declared.options.Styles.{Styles}

-- an argument of the parser's is read by this rule
pub record IsArg (rule : Rule) (arg : Arg) : Type 0 where
  pub rule_is : rule_of arg ≡ rule
  pub local : arg.global ≡ false

-- a command of the parser's has these arguments and subcommands
pub record IsCommand (app : App) (command : Command) : Type 0 where
  pub app_is : app_of command ≡ app
  pub local : (fields_of command).has_globals ≡ false

-- a command of the parser's was changed so
pub record AddsRules (change : App → App) (old new : Command) : Type 0 where
  pub app_is : app_of new ≡ change (app_of old)
  pub local : (fields_of old).has_globals ≡ false → (fields_of new).has_globals ≡ false

-- ---- arguments

-- a word that must be there, by its place
abbrev pub named : Text → Rule
named id = record (new_rule id) { required = true; action = Some Set }

-- this many words or more, by their place
abbrev pub words_named : ℕ → Text → Rule
words_named least id = record (new_rule id) { action = Some Append; range = Some (record { start_inclusive = least; end_inclusive = usize_max }) }

-- a flag, `--id`
abbrev pub flag : Text → Rule
flag id = record (new_rule id) { long = Some id; action = Some SetTrue }

-- an option with a value, `--id VALUE`
abbrev pub option : Text → Rule
option id = record (new_rule id) { long = Some id; value_names = 1 }

-- the same argument, whose value is a number of 64 bits
abbrev pub of_u64 : Rule → Rule
of_u64 rule = record rule { parser = Some (parser.Unsigned 0 18446744073709551615) }

-- of 32 bits
abbrev pub of_u32 : Rule → Rule
of_u32 rule = record rule { parser = Some (parser.Signed (pos 0) (pos 4294967295)) }

-- of 8 bits
abbrev pub of_u8 : Rule → Rule
of_u8 rule = record rule { parser = Some (parser.Signed (pos 0) (pos 255)) }

-- the same argument, with the value that it has where it is left out
abbrev pub or_else : Text → Rule → Rule
or_else value rule = record rule { defaults = value ∷ [] }

-- the same argument, which excludes or needs another one
abbrev pub bound : Rule → Rule
bound rule = record rule { is_free = false }

-- group numbers
abbrev pub numbers : Rule
numbers = of_u64 (words_named 1 (codes "NUMBER"))

-- the option for the style, with the words for the styles
abbrev pub style_option : Bor (List (Bor Text)) → Rule
style_option words = record (or_else (codes "plain") (option (codes "style"))) { parser = Some (parser.Names words) }

-- ---- commands

-- a command with these arguments too
abbrev pub with_rules : App → List Rule → App
with_rules command [] = command
with_rules command (rule ∷ rules) = with_rules (with_rule command rule) rules

-- a command that waits for another one
abbrev pub waiting : App → App
waiting command = with_rules command (flag (codes "no-wait") ∷ bound (of_u64 (option (codes "wait"))) ∷ [])

-- a command on the dataset in a folder
abbrev pub on_dataset : Text → App
on_dataset word = waiting (with_rule (new_app word) (named (codes "DIR")))

-- a command that writes rows in groups and pages
abbrev pub with_rows : App → App
with_rows command = with_rules command (
    or_else (codes "131072") (of_u32 (option (codes "group-rows")))
    ∷ or_else (codes "20000") (of_u32 (option (codes "page-rows")))
    ∷ or_else (codes "1") (of_u8 (option (codes "page-version")))
    ∷ []
    )

-- a command that writes files, in one of these styles
abbrev pub with_style : Bor (List (Bor Text)) → App → App
with_style words command = with_rule (with_rows command) (style_option words)

-- and shows its progress, unless it is told not to
abbrev pub with_progress : Bor (List (Bor Text)) → App → App
with_progress words command = with_rule (with_style words command) (flag (codes "quiet"))

-- makes a dataset: its folder, the file of its columns, and the names of its key columns
abbrev pub create : Styles → App
create styles = with_style styles.words (with_rules (on_dataset (codes "create")) (named (codes "SCHEMA") ∷ words_named 0 (codes "KEY") ∷ []))

-- the rows of a file come in
abbrev pub append : Styles → App
append styles = with_progress styles.words (with_rules (on_dataset (codes "append")) (named (codes "ROWS") ∷ option (codes "unless") ∷ flag (codes "text") ∷ []))

-- the rows of Parquet files come in
abbrev pub import_files : Styles → App
import_files styles = with_progress styles.words (with_rules (on_dataset (codes "import")) (
    record (words_named 1 (codes "FILE")) { required = true }
    ∷ option (codes "unless")
    ∷ flag (codes "text")
    ∷ []
    ))

-- rows are printed, or made a file of
abbrev pub query : Styles → App
query styles = with_progress styles.words (with_rules (on_dataset (codes "query")) (
    option (codes "filter")
    ∷ of_u64 (option (codes "limit"))
    ∷ option (codes "out")
    ∷ flag (codes "text")
    ∷ words_named 0 (codes "COLUMN")
    ∷ []
    ))

-- how many rows there are
abbrev pub count : App
count = with_rules (on_dataset (codes "count")) (option (codes "filter") ∷ flag (codes "text") ∷ [])

-- what the groups are
abbrev pub groups : App
groups = with_rules (on_dataset (codes "groups")) (flag (codes "stats") ∷ flag (codes "text") ∷ [])

-- what the columns are
abbrev pub schema : App
schema = waiting (with_rule (new_app (codes "schema")) (named (codes "PATH")))

-- rows or groups go
abbrev pub remove : Styles → App
remove styles = with_progress styles.words_or_keep (with_rules (on_dataset (codes "remove")) (bound (option (codes "filter")) ∷ numbers ∷ flag (codes "text") ∷ []))

-- groups are written anew
abbrev pub rewrite : Styles → App
rewrite styles = with_progress styles.words_or_keep (with_rules (on_dataset (codes "rewrite")) (
    bound (of_u64 (option (codes "min-rows")))
    ∷ bound numbers
    ∷ bound (flag (codes "all"))
    ∷ []
    ))

-- a column comes at the end
abbrev pub add_column : App
add_column = with_rule (on_dataset (codes "add-column")) (named (codes "SCHEMA"))

-- the calls of a script are made
abbrev pub run : Styles → App
run styles = with_style styles.words (with_rules (on_dataset (codes "run")) (named (codes "SCRIPT") ∷ flag (codes "stop") ∷ flag (codes "text") ∷ []))

-- a program with these commands too
abbrev pub with_commands : App → List App → App
with_commands program [] = program
with_commands program (command ∷ commands) = with_commands (with_subcommand program command.top) commands

-- the program with the commands on a dataset
abbrev pub with_dataset_commands : Styles → App → App
with_dataset_commands styles program = with_commands program (
    create styles
    ∷ append styles
    ∷ import_files styles
    ∷ query styles
    ∷ count
    ∷ groups
    ∷ schema
    ∷ remove styles
    ∷ rewrite styles
    ∷ add_column
    ∷ run styles
    ∷ []
    )
