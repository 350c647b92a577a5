use Rattle.std.proofs.Common.{rules, FitsSigned}
use Rattle.std.specs.Int.{w32}
use Rattle.std.proofs.lemmas.Int.{to_z-of_z}
use Rattle.std.proofs.lemmas.Iterator.Adapters.{option_map_id}
use Rattle.metadata.specs.FromTree.{data_page_header}
use Rattle.metadata.proofs.Rows.{data_page_header_made, data_page_header_same}
use Rattle.metadata.proofs.Readings.{refused, made_read, made_refused}
use Rattle.metadata.proofs.data_page_header.DataPageHeaderFromNode.from_unread.Goals as goal

-- a number shows as itself
pub returns-clause-stands : goal.returns-clause-stands
returns-clause-stands c =
    let fits : FitsSigned w32 c.in_ok-num_values.num_values = search rules in
    let fits1 : FitsSigned w32 c.in_ok-num_values.encoding = search rules in
    simp to_z-of_z (simp option_map_id at (made_read _ data_page_header data_page_header_made _ _ _ _ _ (data_page_header_same _ c.places.ensures) c.in_ok-num_values.ensures.stands))

pub returns-in_err-num_values-clause-which : goal.returns-in_err-num_values-clause-which
returns-in_err-num_values-clause-which c =
    refused _ _ c.args.value.bytes.now c.from_residual.result c.in_err-num_values.field-0.0 c.from_residual.ensures.1 c.in_err-num_values.ensures.which
    (made_refused _ data_page_header data_page_header_made _ _ (data_page_header_same _ c.places.ensures))
