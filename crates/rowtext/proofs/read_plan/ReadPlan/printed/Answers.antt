use Rattle.std.proofs.Common.{◌≡◌, refl, ◌∙◌}
use Rattle.schema.specs.Views.{field_views}
use Rattle.rowtext.specs.inner.Lines.{rest_of}
use Rattle.rowtext.proofs.PrintedLines.{line_read}
use Rattle.rowtext.proofs.read_plan.ReadPlan.printed.Goals as goal

pub returns-then-is_over : goal.returns-then-is_over
returns-then-is_over c =
    let same : field_views c.fields-fields.result.now ≡ c.args.self.now = c.fields-fields.ensures ∙ c.self.view_is in
    line_read (field_views c.fields-fields.result.now) c.args.self.now c.args.text.now (rest_of c.new-line.result) (rest_of c.members_printed.new.line) c.args.pieces.now.items c.members_printed.new.pieces.items same c.in_ok-members_printed.ensures c.new-line.ensures (c.if-is_over.ensures refl)
