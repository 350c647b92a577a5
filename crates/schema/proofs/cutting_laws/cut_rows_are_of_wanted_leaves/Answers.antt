use Rattle.schema.proofs.Cuts.{cut_rows_have_columns}
use Rattle.schema.proofs.CutFits.{cut_rows_fit}
use Rattle.schema.proofs.cutting_laws.cut_rows_are_of_wanted_leaves.Goals as goal

pub returns-clause-fit : goal.returns-clause-fit
returns-clause-fit c = cut_rows_fit

pub returns-clause-columns : goal.returns-clause-columns
returns-clause-columns c = cut_rows_have_columns
