use Rattle.std.proofs.lemmas.Iterator.Adapters.{option_map_id}
use Rattle.metadata.specs.FromTree.{element}
use Rattle.metadata.proofs.Rows.{element_made, element_same}
use Rattle.metadata.proofs.Readings.{refused, made_read, made_refused}
use Rattle.metadata.proofs.element.ElementFromNode.from_unread.Goals as goal

-- a number shows as itself
pub returns-clause-stands : goal.returns-clause-stands
returns-clause-stands c = simp option_map_id at (made_read _ element element_made _ _ _ _ _ (element_same _ c.places.ensures) c.in_ok-kind.ensures.stands)

pub returns-in_err-kind-clause-which : goal.returns-in_err-kind-clause-which
returns-in_err-kind-clause-which c =
    refused _ _ c.args.value.bytes.now c.from_residual.result c.in_err-kind.field-0.0 c.from_residual.ensures.1 c.in_err-kind.ensures.which
    (made_refused _ element element_made _ _ (element_same _ c.places.ensures))
