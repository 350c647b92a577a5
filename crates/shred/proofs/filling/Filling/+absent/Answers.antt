use Rattle.std.proofs.Common.{◌≡◌, ◌+◌, ◌++◌, drop, ap, sym, ◌∙◌, arith, add-one, None, drop_of_length-le}
use Rattle.schema.specs.Shape.{Fields}
use Rattle.schema.specs.Views.{field_view, field_views}
use Rattle.schema.specs.Stripe.{entry, Leaf}
use Rattle.schema.proofs.Forest.{field_place}
use Rattle.shred.specs.inner.Growing.{Columns, absences, absences_each}
use Rattle.shred.specs.inner.Filling.{State, state_of, given}
use Rattle.shred.proofs.Growing.{leaves_split}
use Rattle.shred.proofs.ShownSteps.{given_none, given_twice}
use Rattle.shred.proofs.filling.Filling.+absent.Goals as goal

pub put_absent_each-loop-field-preserved : goal.put_absent_each-loop-field-preserved
put_absent_each-loop-field-preserved t c =
    let fs = c.args.fields.now in
    let i = c.loop-field.field-index in
    let f = c.field-item.result in
    let x = c.args.levels in
    let s = state_of c.loop-field.self in
    let rest = field_views (drop (i + 1) fs) in
    let next : absences (field_view f) x ++ absences_each (i + 1) rest x ≡ absences_each i (field_views (drop i fs)) x =
    ap (λ j. absences (field_view f) x ++ absences_each j rest x) (add-one i)
    ∙ sym (leaves_split (λ (l : Leaf). entry x.repetition x.definition None) i (field_view f) rest)
    ∙ ap (λ (gs : Fields). absences_each i gs x) (sym (field_place fs i f (omega arith) c.field-item.is)) in
    record {
      given = ap (λ (n : State). given n (absences_each (i + 1) rest x)) c.in_ok-put_absent.ensures.given ∙ given_twice s (absences (field_view f) x) (absences_each (i + 1) rest x)
          ∙ ap (λ (t : Columns). given s t) next ∙ c.loop-field.invariant.given;
      marked = c.in_ok-put_absent.ensures.marked ∙ c.loop-field.invariant.marked;
    }

pub put_absent_each-returns-clause-given : goal.put_absent_each-returns-clause-given
put_absent_each-returns-clause-given t c =
    let fs = c.args.fields.now in
    let i = c.loop-field.field-index in
    let s = state_of c.loop-field.self in
    sym (given_none s) ∙ ap (λ gs. given s (absences_each i (field_views gs) c.args.levels)) (sym (drop_of_length-le fs {i = i} (omega arith))) ∙ c.loop-field.invariant.given
