use Rattle.std.proofs.Common.{rules, ◌≡◌, sym, ap, subst, ◌∙◌, to_z, of_z}
use Rattle.std.specs.Prelude.{ℤ, FitsSigned, ◌&&◌, false}
use Rattle.std.specs.Int.{w16}
use Rattle.std.proofs.lemmas.Int.{to_z-of_z}
use Rattle.thrift_compact.specs.declared.tree.Field.{Field}
use Rattle.thrift_compact.specs.declared.tree.Node.TheFolds.{the_lemmas}
use Rattle.thrift_compact.specs.Tree.{Node}
use Rattle.thrift_compact.specs.View.{view, field_view, field_views}
use Rattle.thrift_compact.specs.Shapes.{is_member, has_shape, fields_have_shape}
use Rattle.thrift_compact.proofs.Shapes as shapes
use Rattle.thrift_compact.proofs.WrittenPieces.{written_next, last_next, written_all}
use Rattle.thrift_compact.proofs.piecewise.put_next_fields.Goals as goal

pub loop-field-preserved : goal.loop-field-preserved
loop-field-preserved c =
    let i = c.loop-field.field-index in
    let fields = c.args.fields.now in
    let f = c.field-item.result in
    let last = to_z w16 c.loop-field.last-bits in
    let previous = to_z w16 (of_z w16 c.args.previous) in
    let e : field_view f ≡ (f.id, view f.value) = search (rules, the_lemmas) in
    let fits : FitsSigned w16 f.id = search rules in
    record {
      stands = written_next fields i f previous last c.args.out.now.items c.loop-field.out.items c.put_field.new.out.items c.loop-field-test.true c.field-item.is c.loop-field.invariant.last
          c.in_ok-put_field.ensures.stands c.loop-field.invariant.stands;
      last = to_z-of_z w16 f.id fits ∙ sym (ap (λ (p : ℤ × Node). p.0) e) ∙ last_next fields i f previous c.loop-field-test.true c.field-item.is;
    }

pub returns-clause-stands : goal.returns-clause-stands
returns-clause-stands c = λ fs old same begun.
    written_all c.args.fields.now c.loop-field.field-index (to_z w16 (of_z w16 c.args.previous)) c.args.out.now.items c.loop-field.out.items c.loop-field-test.false c.loop-field.invariant.stands
    fs old (to_z-of_z w16 c.args.previous c.ranges.previous ∙ same) begun

pub returns-in_err-put_field-clause-which : goal.returns-in_err-put_field-clause-which
returns-in_err-put_field-clause-which c =
    let all = fields_have_shape 32 (field_views c.args.fields.now) in
    let f = c.field-item.result in
    let e : field_view f ≡ (f.id, view f.value) = search (rules, the_lemmas) in
    let there = subst (λ (y : Field). (is_member (field_view y).1 && has_shape 32 (field_view y).1) ≡ false → all ≡ false) (sym c.field-item.is)
    (shapes.field_fails c.args.fields.now c.loop-field.field-index c.field-item.result 32 c.loop-field-test.true) in
    let fails = subst (λ (p : ℤ × Node). (is_member p.1 && has_shape 32 p.1) ≡ false → all ≡ false) e there in
    shapes.shapeless_by (is_member (view f.value) && has_shape 32 (view f.value)) all c.from_residual.result c.in_err-put_field.field-0.0 fails c.from_residual.ensures.1 c.in_err-put_field.ensures.shape
