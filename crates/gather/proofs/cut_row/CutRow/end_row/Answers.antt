use Rattle.std.proofs.Common.{refl}
use Rattle.std.proofs.lemmas.Result.{on_ok_weaker}
use Rattle.gather.proofs.CutShowing.{row_is_cut}
use Rattle.gather.proofs.cut_row.CutRow.end_row.Goals as goal

pub returns-clause-cut : goal.returns-clause-cut
returns-clause-cut c =
    on_ok_weaker c.end_row.result (λ ends. λ columns fs values keyed besides fit so. row_is_cut columns fs c.args.self.now _ values c.rows_without_keys_fit.ensures keyed besides fit refl ends so) c.end_row.ensures.stands
