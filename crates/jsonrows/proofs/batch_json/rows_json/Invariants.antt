use Rattle.std.proofs.Common.{◌≡◌, drop, map}
use Rattle.filter.specs.Terms.{each_of}
use Rattle.filter.proofs.Made.{before}
use Rattle.serde_json.specs.View.{view}
use Rattle.schema.specs.Views.{field_views, row_view}
use Rattle.jsonrows.specs.Answers.{row_of_columns_as}
use Rattle.jsonrows.proofs.batch_json.rows_json.Given as goal

-- what is made so far, before what is left
abbrev pub invariant-loop-row : goal.invariant-loop-row
invariant-loop-row l = before (map view l.all.items) (each_of (row_of_columns_as l.texts (field_views l.fields) l.places) (map row_view (drop l.row-index l.rows))) ≡ each_of (row_of_columns_as l.texts (field_views l.fields) l.places) (map row_view l.rows)
