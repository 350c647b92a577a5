use Rattle.std.proofs.Common.{sym, ◌∙◌}
use Rattle.schema.specs.Views.{leaf_type_view}
use Rattle.plain.specs.ValuesLeft.{values_left}
use Rattle.pages.proofs.TextValues.{plain_stands}
use Rattle.pages.proofs.plain_values.check_plain.Goals as goal

pub returns-clause-stood : goal.returns-clause-stood
returns-clause-stood c =
    let values = c.in_ok-new.field-0.0 in
    plain_stands (leaf_type_view c.args.leaf_type.now) c.args.count c.args.bytes.now (values_left values) c.in_ok-new.field-0.1 (sym c.is_text.ensures ∙ c.if-is_text.false) c.what_is_of_a_kind_fits_it.ensures c.in_ok-new.ensures.of_kind c.in_ok-new.ensures.count c.in_ok-new.ensures.stands
