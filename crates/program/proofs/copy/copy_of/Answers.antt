use Rattle.std.proofs.Common.{inl}
use Rattle.bits.proofs.Passing.{passes}
use Rattle.columns.specs.Columns.{names_view}
use Rattle.program.specs.Program.{HasFaultUpTo, IsCopyRefusal, MeansRowsUpTo}
use Rattle.program.proofs.Copied.{copy_is}
use Rattle.program.proofs.Rows.{is_accepted}
use Rattle.program.proofs.copy.copy_of.Goals as goal

pub returns-clause-stands : goal.returns-clause-stands
returns-clause-stands g c =
    let held = c.in_ok-file.ensures.stands in
    copy_is c.args.options.now (names_view c.args.columns) c.args.limit c.args.bytes.now c.in_ok-file.file.schema held.0 c.asked-copy.result held.1 (c.asked-copy.ensures.stands held.0 held.2)

pub returns-clause-which : goal.returns-clause-which
returns-clause-which g c =
    let held = c.in_ok-file.ensures.stands in
    is_accepted (HasFaultUpTo c.args.limit c.args.bytes.now) (MeansRowsUpTo c.args.limit c.args.bytes.now)
    (c.in_ok-file.file.schema, held.0, held.1) c.asked-copy.result

pub returns-in_err-file-clause-which : goal.returns-in_err-file-clause-which
returns-in_err-file-clause-which g c =
    passes (IsCopyRefusal c.args.limit c.args.bytes.now) c.from_residual.result c.in_err-file.field-0.0 c.from_residual.ensures.1 (inl c.in_err-file.ensures.which)
