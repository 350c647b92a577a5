use Rattle.std.proofs.Common.{reverse, ap, ◌∙◌}
use Rattle.std.specs.Global.{Vec}
use Rattle.schema.specs.declared.value.Value.{Value}
use Rattle.schema.specs.Values.{views}
use Rattle.assemble.proofs.BuiltRows.{row_shown, row_taken}
use Rattle.assemble.proofs.row_builder.RowBuilder.take_row.Goals as goal

pub returns-clause-row : goal.returns-clause-row
returns-clause-row c = λ values shown.
    ap (λ (vs : Vec Value). views vs.items) c.replace.ensures.value
    ∙ row_shown (views c.args.self.now.values.items) c.args.self.now.inner.items (reverse c.args.self.now.begun.items) values shown.1

pub returns-clause-again : goal.returns-clause-again
returns-clause-again c = λ values shown.
    let none = ap (λ (vs : Vec Value). views vs.items) c.replace.ensures.after ∙ ap views c.new.ensures.items in
    (shown.0, row_taken (views c.args.self.now.values.items) (views c.replace.new.dest.items) c.args.self.now.inner.items (reverse c.args.self.now.begun.items) values shown.1 none)
