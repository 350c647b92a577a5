use Rattle.std.proofs.Common.{subst}
use Rattle.answers.specs.inner.Gathering.{BeginsLines}
use Rattle.answers.proofs.printing.print_shown.Goals as goal

pub returns-in-Some-clause-which : goal.returns-in-Some-clause-which
returns-in-Some-clause-which g c = λ texts fs all begins s fit. c.print_lines.ensures.which texts fs all (subst (BeginsLines texts fs) c.in-Some.is begins) s fit

pub returns-in-None-clause-which : goal.returns-in-None-clause-which
returns-in-None-clause-which g c = λ texts fs all begins s fit. c.print_empty_rows.ensures.which all s
