use Rattle.std.proofs.Common.{refl}
use Rattle.partition.proofs.WithKeys.{with_row_is}
use Rattle.partition.proofs.splitting.push_row.Goals as goal

pub returns-clause-ok : goal.returns-clause-ok
returns-clause-ok c = with_row_is c.args.split.now.items c.args.at c.index_mut.result.now _ c.args.row c.requires c.index_mut.ensures.value refl c.in_ok-push.ensures.items
