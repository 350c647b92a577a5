use Rattle.clap.specs.Matches.{found_of}
use Rattle.clap.specs.Walk.{rows_of}
use Rattle.dataset_words.proofs.Readings.{met, unmet}
use Rattle.dataset_words.proofs.words.found_for.Goals as goal

pub returns-clause-met : goal.returns-clause-met
returns-clause-met c = met c.args.matches.now c.args.word.now (λ f. rows_of (found_of f.now)) c.subcommand_matches.result c.subcommand_matches.ensures.found c.subcommand_matches.ensures.rows

pub returns-clause-none : goal.returns-clause-none
returns-clause-none c = unmet c.args.matches.now c.args.word.now c.subcommand_matches.result c.subcommand_matches.ensures.found
