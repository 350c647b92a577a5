use Rattle.std.proofs.Common.{◌≡◌, sym, subst, ◌∙◌}
use Rattle.std.specs.Prelude.{IfOk, option_map}
use Rattle.serde_json.specs.View.{view}
use Rattle.schema.specs.Values.{view as value_view}
use Rattle.schema.specs.Views.{leaf_type_view}
use Rattle.rowtext.specs.Reading.{leaf_read_by}
use Rattle.rowtext.proofs.row_reading.leaf_from_as.Goals as goal

pub returns-in-Some : goal.returns-in-Some
returns-in-Some c = subst (λ o. IfOk c.formed_from.result (λ found. option_map value_view found ≡ leaf_read_by o (leaf_type_view c.args.leaf_type.now) (view c.args.json))) (sym c.in-Some.is ∙ c.form_if.ensures) c.formed_from.ensures

pub returns-in-None : goal.returns-in-None
returns-in-None c = subst (λ o. IfOk c.leaf_from.result (λ found. option_map value_view found ≡ leaf_read_by o (leaf_type_view c.args.leaf_type.now) (view c.args.json))) (sym c.in-None.is ∙ c.form_if.ensures) c.leaf_from.ensures
