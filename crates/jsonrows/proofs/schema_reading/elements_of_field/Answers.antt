use Rattle.std.proofs.Common.{ap}
use Rattle.serde_json.specs.View.{view}
use Rattle.schema.specs.Elements.{elements_view}
use Rattle.jsonrows.specs.inner.SchemaViews.{saids}
use Rattle.jsonrows.proofs.NewColumns.{says_column, says_none, no_column_found, columns_found, no_columns_found}
use Rattle.jsonrows.proofs.schema_reading.elements_of_field.Goals as goal

pub returns-then-not-branch-clause-only : goal.returns-then-not-branch-clause-only
returns-then-not-branch-clause-only c =
    let none = says_none (view c.args.field.now) (saids c.new-all.result.items) (saids c.say_field.new.all.items) c.in_ok-say_field.field-0 c.if-not-branch.true c.in_ok-say_field.ensures in
    λ fault. no_column_found (view c.args.field.now) c.requires none

pub returns-clause-stands : goal.returns-clause-stands
returns-clause-stands c =
    let said = says_column (view c.args.field.now) (saids c.new-all.result.items) (saids c.say_field.new.all.items) c.in_ok-say_field.field-0 (ap saids c.new-all.ensures.items) c.if-not-branch.false c.in_ok-say_field.ensures in
    columns_found (λ es. elements_view es.items) (view c.args.field.now) (saids c.say_field.new.all.items) c.elements_of.result said c.elements_of.ensures.stands

pub returns-clause-only : goal.returns-clause-only
returns-clause-only c =
    let said = says_column (view c.args.field.now) (saids c.new-all.result.items) (saids c.say_field.new.all.items) c.in_ok-say_field.field-0 (ap saids c.new-all.ensures.items) c.if-not-branch.false c.in_ok-say_field.ensures in
    no_columns_found (view c.args.field.now) (saids c.say_field.new.all.items) c.elements_of.result c.requires said c.elements_of.ensures.only
