use Rattle.serde_json.specs.View.{view}
use Rattle.schema.specs.Views.{field_views, row_view}
use Rattle.jsonrows.specs.Answers.{row_of_columns_as}
use Rattle.jsonrows.proofs.Made.{one_more_made}
use Rattle.jsonrows.proofs.batch_json.rows_json.Goals as goal

pub loop-row-preserved : goal.loop-row-preserved
loop-row-preserved c =
    one_more_made row_view view (row_of_columns_as c.args.texts (field_views c.args.fields.now) c.args.places.now) c.args.rows.now c.loop-row.row-index c.row-item.result c.loop-row.all.items c.push.new.self.items c.in_ok-shown.shown _ c.loop-row-test.true c.row-item.is c.in_ok-push.ensures.items c.in_ok-shown.ensures.shown c.loop-row.invariant
