use Rattle.std.proofs.Common.{sym, ap}
use Rattle.plain.specs.ValuesLeft.{values_left as plain_values_left}
use Rattle.pages.specs.Left.{levels_of, values_left}
use Rattle.pages.proofs.LevelLists.{made_flat}
use Rattle.pages.proofs.data_page.DataPage.of.Goals as goal

pub returns-then-are_zeros-2 : goal.returns-then-are_zeros-2
returns-then-are_zeros-2 c =
    made_flat c.args.greatest c.len-count.result (levels_of c.args.repetitions) (levels_of c.args.definitions) (plain_values_left c.in-Plain.plain) (values_left c.args.values) (c.if-greatest-eq0.true) (c.are_zeros.ensures (c.if-are_zeros.true)) (c.are_zeros-then-are_zeros.ensures c.if-are_zeros-2.true) c.len-count.ensures (sym (ap values_left c.in-Plain.is))
