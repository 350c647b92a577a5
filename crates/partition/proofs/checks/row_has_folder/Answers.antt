use Rattle.std.proofs.Common.{◌≡◌, ap, sym, ◌∙◌, false, nat_lt, arith}
use Rattle.std.proofs.lemmas.Bool.Decides.{nat_tests}
use Rattle.schema.specs.Values.{view}
use Rattle.schema.specs.Keys.{key_column_view}
use Rattle.partition.specs.inner.Checks.{has_folder}
use Rattle.partition.proofs.Partitioning.{member_is, no_folder}
use Rattle.partition.proofs.checks.row_has_folder.Goals as goal

pub returns-then-column-len : goal.returns-then-column-len
returns-then-column-len c = c.has_folder.ensures ∙ ap (has_folder (key_column_view c.args.column.now)) (ap view c.index.ensures ∙ sym (member_is c.args.row.now.values.items c.args.column.now.at c.index.result.now (omega (arith, c.len.ensures))))

pub returns-else-column-len : goal.returns-else-column-len
returns-else-column-len c =
    let none : nat_lt c.args.column.now.at c.len.result ≡ false = grind (arith, nat_tests) in
    none ∙ sym (no_folder (key_column_view c.args.column.now) c.args.row.now.values.items (omega (arith, c.len.ensures)))
