use Rattle.std.proofs.lemmas.Iterator.Adapters.{option_map_id}
use Rattle.metadata.specs.FromTree.{statistics}
use Rattle.metadata.proofs.Rows.{statistics_made, statistics_same}
use Rattle.metadata.proofs.Readings.{refused, made_read, made_refused}
use Rattle.metadata.proofs.statistics.StatisticsFromNode.from_unread.Goals as goal

-- a number shows as itself
pub returns-clause-stands : goal.returns-clause-stands
returns-clause-stands c = simp option_map_id at (made_read _ statistics statistics_made _ _ _ _ _ (statistics_same _ c.places.ensures) c.in_ok-max.ensures.stands)

pub returns-in_err-max-clause-which : goal.returns-in_err-max-clause-which
returns-in_err-max-clause-which c =
    refused _ _ c.args.value.bytes.now c.from_residual.result c.in_err-max.field-0.0 c.from_residual.ensures.1 c.in_err-max.ensures.which
    (made_refused _ statistics statistics_made _ _ (statistics_same _ c.places.ensures))
