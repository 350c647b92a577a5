use Rattle.std.proofs.Common.{List, ◌++◌, drop}
use Rattle.serde_json.specs.View.{items_view}
use Rattle.serde_json.specs.declared.value.Value.{Value}
use Rattle.schema.specs.Law.{AreValid}
use Rattle.schema.specs.Views.{field_views}
use Rattle.jsonrows.specs.inner.SchemaPrinting.{ArePrintedFields}
use Rattle.jsonrows.proofs.schema_printing.+fields.Given as goal

-- the objects so far, before those of the fields that are left, are those of all fields
abbrev pub invariant-fields_json-loop-field : goal.invariant-fields_json-loop-field
invariant-fields_json-loop-field l = record {
  all : (rest : List Value) → ArePrintedFields (field_views (drop l.field-index l.fields)) (items_view rest) → ArePrintedFields (field_views l.fields) (items_view (l.all.items ++ rest));
  valid : AreValid (field_views (drop l.field-index l.fields));
}
