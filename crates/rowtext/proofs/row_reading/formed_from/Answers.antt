use Rattle.std.proofs.Common.{◌≡◌, Some, sym, ap, subst, ◌∙◌}
use Rattle.std.specs.Prelude.{IfOk, option_map}
use Rattle.serde_json.specs.View.{view}
use Rattle.serde_json.proofs.Views.{view-Object}
use Rattle.schema.specs.Values.{view as value_view}
use Rattle.schema.specs.Views.{leaf_type_view}
use Rattle.rowtext.specs.Reading.{leaf_read_by}
use Rattle.rowtext.proofs.row_reading.formed_from.Goals as goal

pub returns-in-Object : goal.returns-in-Object
returns-in-Object c =
    subst (λ d. IfOk c.digits_from.result (λ found. option_map value_view found ≡ leaf_read_by (Some c.args.form) (leaf_type_view c.args.leaf_type.now) d)) (sym (ap view c.in-Object.is ∙ view-Object c.in-Object.members)) (c.digits_from.ensures c.args.form)
