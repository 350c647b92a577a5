use Rattle.std.proofs.lemmas.Iterator.Adapters.{option_map_id}
use Rattle.metadata.specs.FromTree.{chunk_meta}
use Rattle.metadata.proofs.Rows.{chunk_meta_made, chunk_meta_same}
use Rattle.metadata.proofs.Readings.{refused, made_read, made_refused}
use Rattle.metadata.proofs.chunk_meta.ChunkMetaFromNode.from_unread.Goals as goal

-- a number shows as itself
pub returns-clause-stands : goal.returns-clause-stands
returns-clause-stands c = simp option_map_id at (made_read _ chunk_meta chunk_meta_made _ _ _ _ _ (chunk_meta_same _ c.places.ensures) c.in_ok-file_path.ensures.stands)

pub returns-in_err-file_path-clause-which : goal.returns-in_err-file_path-clause-which
returns-in_err-file_path-clause-which c =
    refused _ _ c.args.value.bytes.now c.from_residual.result c.in_err-file_path.field-0.0 c.from_residual.ensures.1 c.in_err-file_path.ensures.which
    (made_refused _ chunk_meta chunk_meta_made _ _ (chunk_meta_same _ c.places.ensures))
