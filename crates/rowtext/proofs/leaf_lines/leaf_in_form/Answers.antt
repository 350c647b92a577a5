use Rattle.std.proofs.Common.{sym, subst, ◌∙◌}
use Rattle.std.specs.Prelude.{OnOk}
use Rattle.schema.specs.Views.{leaf_type_view}
use Rattle.rowtext.specs.inner.Pieces.{IsLeafRead}
use Rattle.rowtext.proofs.leaf_lines.leaf_in_form.Goals as goal

pub returns-in-Some : goal.returns-in-Some
returns-in-Some c =
    subst (λ o. OnOk c.formed_printed.result (IsLeafRead o (leaf_type_view c.args.leaf_type.now) c.args.line.now c.formed_printed.new.line c.args.pieces.now.items c.formed_printed.new.pieces.items)) (sym c.in-Some.is ∙ c.form_if.ensures) c.formed_printed.ensures

pub returns-in-None : goal.returns-in-None
returns-in-None c =
    subst (λ o. OnOk c.leaf_unformed.result (IsLeafRead o (leaf_type_view c.args.leaf_type.now) c.args.line.now c.leaf_unformed.new.line c.args.pieces.now.items c.leaf_unformed.new.pieces.items)) (sym c.in-None.is ∙ c.form_if.ensures) c.leaf_unformed.ensures
