-- Calls that read standard input for two of their files.
use Rattle.std.specs.Prelude.{◌≡◌, ◌⊎◌, ◌<◌, ℕ, List, codes, Option, Some, bytes_eq, count_by, option_map}
use Rattle.std.specs.Borrow.{Bor}
use Rattle.dataset_words.specs.declared.call.Task.{Task}
use Rattle.dataset_words.specs.declared.call.Task.TheVariants.{Change as ToChange}
use Rattle.dataset_words.specs.declared.call.Change.{Change}
use Rattle.dataset_words.specs.declared.call.Change.TheVariants.{Append, Import}

-- how many of these files are standard input
abbrev pub inputs_among : List (Bor (List ℕ)) → ℕ
inputs_among files = count_by (λ file. bytes_eq file.now (codes "-")) files

-- a filter is read from standard input
abbrev pub IsFilterOfInput : Option (Bor (List ℕ)) → Type 0
IsFilterOfInput filter = option_map (λ text. text.now) filter ≡ Some (codes "@-")

-- a change reads standard input for two of its files
abbrev pub ChangeReadsInputTwice : Change → Type 0
ChangeReadsInputTwice (Append rows unless) = (rows.now ≡ codes "-") × IsFilterOfInput unless
ChangeReadsInputTwice (Import files unless) = (1 < inputs_among files.items) ⊎ ((inputs_among files.items ≡ 1) × IsFilterOfInput unless)
ChangeReadsInputTwice _ = ⊥

-- what is to be done reads standard input for two of its files
abbrev pub TaskReadsInputTwice : Task → Type 0
TaskReadsInputTwice (ToChange change) = ChangeReadsInputTwice change
TaskReadsInputTwice _ = ⊥
