use Rattle.std.proofs.Common.{rules, ◌≡◌, ◌+◌, take, sym, ap, subst, ◌∙◌, to_z, of_z}
use Rattle.std.specs.Prelude.{ℤ, FitsSigned, ◌&&◌, false}
use Rattle.std.specs.Int.{w16}
use Rattle.std.proofs.lemmas.Int.{to_z-of_z}
use Rattle.bits.specs.Codec.{Appends}
use Rattle.thrift_compact.specs.declared.tree.Field.{Field}
use Rattle.thrift_compact.specs.declared.tree.Node.TheFolds.{the_lemmas}
use Rattle.thrift_compact.specs.Tree.{Node}
use Rattle.thrift_compact.specs.View.{view, field_view, field_views}
use Rattle.thrift_compact.specs.Length.{size_value, size_field_head}
use Rattle.thrift_compact.specs.Shapes.{is_member, has_shape, fields_have_shape}
use Rattle.thrift_compact.specs.Piecewise.{AreBegun, size_begun, AppendsRest}
use Rattle.thrift_compact.specs.inner.Writing.{SpellsField}
use Rattle.thrift_compact.proofs.Appending.{pushed}
use Rattle.thrift_compact.proofs.Shapes as shapes
use Rattle.thrift_compact.proofs.Writes as writes
use Rattle.thrift_compact.proofs.piecewise.put_rest.Goals as goal

pub loop-field-preserved : goal.loop-field-preserved
loop-field-preserved c =
    let last = to_z w16 c.loop-field.last-bits in
    let previous = to_z w16 (of_z w16 c.args.previous) in
    let one = subst (λ (y : Field). Appends (SpellsField last 32 (field_view y).0 (field_view y).1) (size_field_head last (field_view y).0 + size_value (field_view y).1) c.loop-field.out.items c.put_field.new.out.items) c.field-item.is c.in_ok-put_field.ensures.stands in
    let m = writes.fields_more c.args.fields.now c.loop-field.field-index c.field-item.result 32 previous last c.args.out.now.items c.loop-field.out.items c.put_field.new.out.items c.loop-field-test.true c.loop-field.invariant one in
    let f = c.field-item.result in
    let e : field_view f ≡ (f.id, view f.value) = search (rules, the_lemmas) in
    let fits : FitsSigned w16 f.id = search rules in
    let last_is = ap (λ (y : Field). (field_view y).0) (sym c.field-item.is) ∙ ap (λ (p : ℤ × Node). p.0) e ∙ sym (to_z-of_z w16 f.id fits) in
    let front = field_views (take (c.loop-field.field-index + 1) c.args.fields.now) in
    subst (λ (z : ℤ). Appends (AreBegun 32 front previous z) (size_begun front previous) c.args.out.now.items c.put_field.new.out.items) last_is m

pub returns-clause-stands : goal.returns-clause-stands
returns-clause-stands c =
    let all = writes.fields_all c.args.fields.now c.loop-field.field-index 32 (to_z w16 (of_z w16 c.args.previous)) (to_z w16 c.loop-field.last-bits) c.args.out.now.items c.loop-field.out.items c.push.new.self.items c.loop-field-test.false c.loop-field.invariant
    (pushed c.loop-field.out.items c.push.new.self.items 0 c.in_ok-push.ensures.items) in
    subst (λ (z : ℤ). AppendsRest (field_views c.args.fields.now) z c.args.out.now.items c.push.new.self.items) (to_z-of_z w16 c.args.previous c.ranges.previous) all

pub returns-in_err-put_field-clause-which : goal.returns-in_err-put_field-clause-which
returns-in_err-put_field-clause-which c =
    let all = fields_have_shape 32 (field_views c.args.fields.now) in
    let f = c.field-item.result in
    let e : field_view f ≡ (f.id, view f.value) = search (rules, the_lemmas) in
    let there = subst (λ (y : Field). (is_member (field_view y).1 && has_shape 32 (field_view y).1) ≡ false → all ≡ false) (sym c.field-item.is)
    (shapes.field_fails c.args.fields.now c.loop-field.field-index c.field-item.result 32 c.loop-field-test.true) in
    let fails = subst (λ (p : ℤ × Node). (is_member p.1 && has_shape 32 p.1) ≡ false → all ≡ false) e there in
    shapes.shapeless_by (is_member (view f.value) && has_shape 32 (view f.value)) all c.from_residual.result c.in_err-put_field.field-0.0 fails c.from_residual.ensures.1 c.in_err-put_field.ensures.shape
