use Rattle.std.proofs.Common.{◌≡◌, ◌++◌, refl, sym, ap, subst, ◌∙◌}
use Rattle.assemble.specs.Sinks.{tokens_each}
use Rattle.schema.specs.Law.{names, AllDiffer, AreValid}
use Rattle.schema.specs.Shape.{Fields}
use Rattle.schema.specs.Views.{field_views}
use Rattle.rowtext.specs.inner.Pieces.{tokens_of}
use Rattle.rowtext.proofs.WholeLines.{whole_read}
use Rattle.rowtext.proofs.read_plan.ReadPlan.put_in_any_order.Goals as goal

pub members_at-requires-clause-differ : goal.members_at-requires-clause-differ
members_at-requires-clause-differ c = subst (λ (fs : Fields). AllDiffer (names fs)) (sym c.fields-fields.ensures) c.leaves.ensures.valid.0.differ

pub members_at-requires-clause-valid : goal.members_at-requires-clause-valid
members_at-requires-clause-valid c = subst AreValid (sym c.fields-fields.ensures) c.leaves.ensures.valid.1

pub returns-then-is_over : goal.returns-then-is_over
returns-then-is_over c =
    let same : field_views c.fields-fields.result.now ≡ c.args.self.now = c.fields-fields.ensures ∙ c.self.view_is in
    let h = whole_read c.args.texts (field_views c.fields-fields.result.now) c.args.self.now c.args.text.now c.new-line.result c.skip_blanks.new.self c.skip_mark.new.self c.members_at.new.line c.clear.new.self.items c.members_at.new.pieces.items
    same c.new-line.ensures c.skip_blanks.ensures (c.if-not-skip_mark.ensures.taken refl) c.in_ok-members_at.ensures (c.if-is_over.ensures refl) in
    (h.0, (h.1.0, h.1.1 ∙ ap (λ ps. tokens_of ps ++ tokens_each h.0) c.clear.ensures))
