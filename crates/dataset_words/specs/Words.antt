-- The words that the commands on a dataset begin with.
use Rattle.std.specs.Prelude.{ℕ, Bool, List, [], ◌∷◌, ◌||◌, codes, bytes_eq}
use Rattle.dataset_words.specs.declared.call.Task.{Task}
use Rattle.dataset_words.specs.declared.call.Task.TheVariants.{Create, Ask, Change as ToChange, Look as LookAt, Run}
use Rattle.dataset_words.specs.declared.call.Question.{Question}
use Rattle.dataset_words.specs.declared.call.Question.TheVariants.{Query, Count, Groups, Schema}
use Rattle.dataset_words.specs.declared.call.Change.{Change}
use Rattle.dataset_words.specs.declared.call.Change.TheVariants.{Append, Import, AddColumn, Remove, RemoveGroups, Rewrite, RewriteSmall, RewriteAll}
use Rattle.dataset_words.specs.declared.call.Look.{Look}
use Rattle.dataset_words.specs.declared.call.Look.TheVariants.{Survey, Files, Rows}

-- the word of a command that asks something of a dataset
abbrev pub question_word : Question → List ℕ
question_word (Query filter columns limit) = codes "query"
question_word (Count filter) = codes "count"
question_word (Groups stats) = codes "groups"
question_word Schema = codes "schema"

-- the word of a command that changes a dataset
abbrev pub change_word : Change → List ℕ
change_word (Append rows unless) = codes "append"
change_word (Import files unless) = codes "import"
change_word (AddColumn schema) = codes "add-column"
change_word (Remove filter) = codes "remove"
change_word (RemoveGroups numbers) = codes "remove"
change_word (Rewrite numbers) = codes "rewrite"
change_word (RewriteSmall min_rows) = codes "rewrite"
change_word RewriteAll = codes "rewrite"

-- the word of a command that looks at a dataset's files: `inspect` or `check`
abbrev pub look_word : Look → List ℕ
look_word (Survey min_rows as_json) = codes "inspect"
look_word Files = codes "check"
look_word (Rows rows) = codes "check"

-- the word that a command on a dataset begins with
abbrev pub task_word : Task → List ℕ
task_word (Create schema keys) = codes "create"
task_word (Ask question) = question_word question
task_word (ToChange change) = change_word change
task_word (LookAt look) = look_word look
task_word (Run script stops) = codes "run"

-- one of the words of the commands that ask something of a dataset
abbrev pub is_question_word : List ℕ → Bool
is_question_word word = bytes_eq word (codes "query") || (bytes_eq word (codes "count") || (bytes_eq word (codes "groups") || bytes_eq word (codes "schema")))

-- one of those of the commands that make a change of a file
abbrev pub is_change_of_file : List ℕ → Bool
is_change_of_file word = bytes_eq word (codes "append") || bytes_eq word (codes "add-column")

-- one of those of the other commands that change a dataset
abbrev pub is_change_of_rows : List ℕ → Bool
is_change_of_rows word = bytes_eq word (codes "import") || (bytes_eq word (codes "remove") || bytes_eq word (codes "rewrite"))

-- one of those of the commands that change a dataset
abbrev pub is_change_word : List ℕ → Bool
is_change_word word = is_change_of_file word || is_change_of_rows word

-- one of those of the commands that make a dataset, or run a script
abbrev pub is_file_word : List ℕ → Bool
is_file_word word = bytes_eq word (codes "create") || bytes_eq word (codes "run")

-- one of the words that the commands on a dataset begin with
abbrev pub is_task_word : List ℕ → Bool
is_task_word word = is_question_word word || (is_change_word word || is_file_word word)
