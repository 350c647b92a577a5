use Rattle.dataset_words.proofs.Adding.{adds_arg}
use Rattle.dataset_words.proofs.options.with_kept_options.Goals as goal

pub returns : goal.returns
returns c = adds_arg c.in_ok-with_rows.ensures c.style_option-style.ensures c.in_ok-command.ensures
