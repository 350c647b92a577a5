-- What words ask for, by what the parser found in them.
use Rattle.std.specs.Prelude.{◌⊎◌, ℕ, List, codes}
use Rattle.clap.specs.declared.parser.matches.ArgMatches.{ArgMatches}
use Rattle.clap.specs.declared.parser.matches.Found.{Found}
use Rattle.dataset_words.specs.Asked.{HasFlag, HasMet}
use Rattle.program.specs.Asked.{AsksFor, LacksWord}
use Rattle.program.specs.Words.{word_of}
use Rattle.program.specs.declared.arguments.Request.{Request}

-- the command that the words name, by what was found for its arguments, asks for this
pub record IsMetRequest (matches : ArgMatches) (request : Request) : Type 0 where
  pub found : Found
  pub met : HasMet matches (word_of request.call) found
  pub asks : AsksFor (word_of request.call) found request.call
  pub quiet : HasFlag found (codes "quiet") request.quiet

-- the words name no command of this word, or what was found for its arguments makes no call
abbrev pub IsUnmet : ArgMatches → List ℕ → Type 0
IsUnmet matches word = ((found : Found) → HasMet matches word found → ⊥) ⊎ ((found : Found) × HasMet matches word found × LacksWord word found)
