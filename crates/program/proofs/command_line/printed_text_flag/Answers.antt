use Rattle.std.specs.Prelude.{codes}
use Rattle.std.proofs.lemmas.Result.{IfOk-weaker}
use Rattle.dataset_words.specs.CommandLine.{flag}
use Rattle.program.proofs.CommandLines.{bound_by_conflict}
use Rattle.program.proofs.command_line.printed_text_flag.Goals as goal

pub returns : goal.returns
returns c = IfOk-weaker c.conflicts_with.result _ _ (λ arg adds. bound_by_conflict c.text_flag.result arg (flag (codes "text")) _ c.text_flag.ensures adds) c.conflicts_with.ensures
