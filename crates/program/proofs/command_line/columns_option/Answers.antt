use Rattle.std.proofs.lemmas.Result.{IfOk-weaker}
use Rattle.program.specs.CommandLine.{wanted_columns}
use Rattle.program.proofs.CommandLines.{bound_by_need}
use Rattle.program.proofs.command_line.columns_option.Goals as goal

pub returns : goal.returns
returns c = IfOk-weaker c.requires_arg.result _ _ (λ arg adds. bound_by_need c.wanted_columns.result arg wanted_columns _ c.wanted_columns.ensures adds) c.requires_arg.ensures
