use Rattle.std.proofs.Common.{rules, FitsSigned}
use Rattle.std.specs.Int.{w32, w64}
use Rattle.std.proofs.lemmas.Int.{to_z-of_z}
use Rattle.std.proofs.lemmas.Iterator.Adapters.{option_map_id}
use Rattle.metadata.specs.FromTree.{column_meta}
use Rattle.metadata.proofs.Numbers.{numbers_shown}
use Rattle.metadata.proofs.Rows.{column_meta_made, column_meta_same}
use Rattle.metadata.proofs.Readings.{refused, made_read, made_refused}
use Rattle.metadata.proofs.column_meta.ColumnMetaFromNode.from_unread.Goals as goal

-- a number shows as itself
pub returns-clause-stands : goal.returns-clause-stands
returns-clause-stands c =
    let fits : FitsSigned w32 c.in_ok-kind.kind = search rules in
    let fits1 : FitsSigned w32 c.in_ok-kind.codec = search rules in
    let fits2 : FitsSigned w64 c.in_ok-kind.num_values = search rules in
    let fits3 : FitsSigned w64 c.in_ok-kind.data_page_offset = search rules in
    simp to_z-of_z (simp (numbers_shown, option_map_id) at (made_read _ column_meta column_meta_made _ _ _ _ _ (column_meta_same _ c.places.ensures) c.in_ok-kind.ensures.stands))

pub returns-in_err-kind-clause-which : goal.returns-in_err-kind-clause-which
returns-in_err-kind-clause-which c =
    refused _ _ c.args.value.bytes.now c.from_residual.result c.in_err-kind.field-0.0 c.from_residual.ensures.1 c.in_err-kind.ensures.which
    (made_refused _ column_meta column_meta_made _ _ (column_meta_same _ c.places.ensures))
