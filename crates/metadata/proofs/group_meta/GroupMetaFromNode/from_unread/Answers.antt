use Rattle.std.proofs.Common.{rules, FitsSigned}
use Rattle.std.specs.Int.{w64}
use Rattle.std.proofs.lemmas.Int.{to_z-of_z}
use Rattle.std.proofs.lemmas.Iterator.Adapters.{option_map_id}
use Rattle.metadata.specs.FromTree.{group_meta}
use Rattle.metadata.proofs.Rows.{group_meta_made, group_meta_same}
use Rattle.metadata.proofs.Readings.{refused, made_read, made_refused}
use Rattle.metadata.proofs.group_meta.GroupMetaFromNode.from_unread.Goals as goal

-- a number shows as itself
pub returns-clause-stands : goal.returns-clause-stands
returns-clause-stands c =
    let fits : FitsSigned w64 c.in_ok-columns.num_rows = search rules in
    simp to_z-of_z (simp option_map_id at (made_read _ group_meta group_meta_made _ _ _ _ _ (group_meta_same _ c.places.ensures) c.in_ok-columns.ensures.stands))

pub returns-in_err-columns-clause-which : goal.returns-in_err-columns-clause-which
returns-in_err-columns-clause-which c =
    refused _ _ c.args.value.bytes.now c.from_residual.result c.in_err-columns.field-0.0 c.from_residual.ensures.1 c.in_err-columns.ensures.which
    (made_refused _ group_meta group_meta_made _ _ (group_meta_same _ c.places.ensures))
