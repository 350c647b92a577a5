use Rattle.std.proofs.Common.{sym, subst}
use Rattle.schema.specs.Views.{row_view}
use Rattle.scan.specs.declared.parts.Part.{Part}
use Rattle.scan.specs.Left.{part_holds}
use Rattle.scan.specs.inner.Parts.{IsCutPart}
use Rattle.scan.proofs.SideBySide.{times, times_many, times_same}
use Rattle.scan.proofs.part_reader.check_part.Goals as goal

pub returns-in-Given-clause-accepts : goal.returns-in-Given-clause-accepts
returns-in-Given-clause-accepts c =
    let row = row_view c.in-Given.field-0 in
    (times c.args.count row, subst (λ (p : Part). part_holds c.args.held.now p (times c.args.count row)) (sym c.in-Given.is) (times_same c.args.count row), times_many c.args.count row)

pub check_run-requires : goal.check_run-requires
check_run-requires c = record { cut = subst (IsCutPart c.args.held.now.schema) c.in-Read.is c.requires.cut }
