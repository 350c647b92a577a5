use Rattle.metadata.specs.FromTree.{key_value}
use Rattle.metadata.proofs.Rows.{key_value_made, key_value_same}
use Rattle.metadata.proofs.Readings.{refused, made_read, made_refused}
use Rattle.metadata.proofs.key_value.KeyValueFromNode.from_unread.Goals as goal

pub returns-clause-stands : goal.returns-clause-stands
returns-clause-stands c = made_read _ key_value key_value_made _ _ _ _ _ (key_value_same _ c.places.ensures) c.in_ok-key.ensures.stands

pub returns-in_err-key-clause-which : goal.returns-in_err-key-clause-which
returns-in_err-key-clause-which c =
    refused _ _ c.args.value.bytes.now c.from_residual.result c.in_err-key.field-0.0 c.from_residual.ensures.1 c.in_err-key.ensures.which
    (made_refused _ key_value key_value_made _ _ (key_value_same _ c.places.ensures))
