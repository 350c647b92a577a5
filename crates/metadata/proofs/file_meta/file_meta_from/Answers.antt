use Rattle.std.proofs.lemmas.Iterator.Adapters.{option_map_id}
use Rattle.metadata.specs.FromTree.{file_meta}
use Rattle.metadata.proofs.Rows.{file_meta_made, file_meta_same}
use Rattle.metadata.proofs.Readings.{refused, made_read, made_refused}
use Rattle.metadata.proofs.file_meta.file_meta_from.Goals as goal

-- a number shows as itself
pub returns-clause-stands : goal.returns-clause-stands
returns-clause-stands c = simp option_map_id at (made_read _ file_meta file_meta_made _ _ _ _ _ (file_meta_same _ c.places.ensures) c.in_ok-version.ensures.stands)

pub returns-in_err-version-clause-which : goal.returns-in_err-version-clause-which
returns-in_err-version-clause-which c =
    refused _ _ c.args.value.bytes.now c.from_residual.result c.in_err-version.field-0.0 c.from_residual.ensures.1 c.in_err-version.ensures.which
    (made_refused _ file_meta file_meta_made _ _ (file_meta_same _ c.places.ensures))
