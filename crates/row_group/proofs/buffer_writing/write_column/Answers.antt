use Rattle.std.proofs.Common.{◌≡◌, ap, Err}
use Rattle.bits.specs.declared.refusal.Refusal.TheVariants.{Limit}
use Rattle.row_group.proofs.buffer_writing.write_column.Goals as goal

pub returns-in-Err-clause-limit : goal.returns-in-Err-clause-limit
returns-in-Err-clause-limit c = λ limit all held each.
    let is : c.of_rows.result ≡ Limit = cc in
    c.in-Err.ensures.limit (ap Err (c.of_rows.ensures.limit is)) all held each
