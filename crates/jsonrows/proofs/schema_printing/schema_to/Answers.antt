use Rattle.std.proofs.Common.{◌≡◌, ◌≤◌, ◌<◌, ◌^◌, Some, sym, ap, subst, ◌∙◌, arith, string_bytes}
use Rattle.serde_json.specs.Data.{array, depth}
use Rattle.serde_json.specs.Read.{read}
use Rattle.serde_json.specs.View.{items_view}
use Rattle.serde_json.specs.Written.{has_float, compact_text}
use Rattle.serde_json.proofs.Views.{view-Array}
use Rattle.schema.specs.Shape.{count}
use Rattle.schema.proofs.Few.{count_leaves, few_each}
use Rattle.jsonrows.specs.inner.SchemaPrinting.{ArePrintedFields}
use Rattle.rowtext.proofs.Heights.{at_most_32}
use Rattle.jsonrows.proofs.SchemaObjects.{of_short}
use Rattle.jsonrows.proofs.SchemaDepths.{fields_shallow}
use Rattle.jsonrows.proofs.SchemaFloats.{schema-has_no_float}
use Rattle.jsonrows.proofs.SchemaTexts.{schemas_read_back}
use Rattle.jsonrows.proofs.schema_printing.schema_to.Goals as goal

pub returns-clause-stands : goal.returns-clause-stands
returns-clause-stands c =
    let ds = items_view c.in_ok-fields.fields.items in
    let printed = subst (λ fs. ArePrintedFields fs ds) c.fields.ensures c.in_ok-fields.ensures.printed in
    let seen = view-Array c.in_ok-fields.fields in
    (ds, printed.0, c.in_ok-text.ensures.text (ap has_float seen ∙ schema-has_no_float c.args.schema.now ds printed.0) ∙ ap compact_text seen)

pub returns-clause-reads_back : goal.returns-clause-reads_back
returns-clause-reads_back c =
    let fs = c.args.schema.now in
    let ds = items_view c.in_ok-fields.fields.items in
    let valid = c.leaves-leaves.ensures.valid in
    let within = c.leaves-leaves.ensures.within in
    let printed = subst (λ xs. ArePrintedFields xs ds) c.fields.ensures c.in_ok-fields.ensures.printed in
    let seen = view-Array c.in_ok-fields.fields in
    let tall = at_most_32 fs valid within in
    let shallow = fields_shallow fs ds printed.0 in
    let nests : depth (array ds) ≤ 127 = omega (arith, tall, shallow) in
    let reads : read (string_bytes c.in_ok-text.text) ≡ Some (array ds) = c.in_ok-text.ensures.reads_back (subst (λ d. depth d ≤ 127) (sym seen) nests) ∙ ap Some seen in
    let leaves = within.leaves in
    let many = count_leaves 0 fs valid.1 in
    let few : count fs < 2 ^ 31 = omega (arith, leaves, many) in
    schemas_read_back fs ds (string_bytes c.in_ok-text.text) valid few (of_short fs (few_each 0 fs valid.1 leaves) printed.1) printed.0 reads
