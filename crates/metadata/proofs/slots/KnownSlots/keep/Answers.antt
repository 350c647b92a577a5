use Rattle.std.proofs.Common.{◌≡◌, sym, ap, subst, ◌∙◌, rules, to_z, of_z, to_z-of_z, FitsSigned}
use Rattle.std.specs.Prelude.{ℤ, Option, option_map}
use Rattle.std.specs.Int.{w16}
use Rattle.std.proofs.lemmas.Bool.Decides.{Decides-int_eq}
use Rattle.bits.specs.Refusals.{HasCause}
use Rattle.thrift_compact.specs.View.{code_of}
use Rattle.thrift_compact.specs.Values.{IsRefusedFor, ReadAs}
use Rattle.metadata.specs.inner.Slots.{slot_step}
use Rattle.metadata.proofs.Readings.{refused, here_refused, other_refused, differ}
use Rattle.metadata.proofs.slots.KnownSlots.keep.Goals as goal

pub returns-in_err-found-clause-which : goal.returns-in_err-found-clause-which
returns-in_err-found-clause-which g c =
    let v = c.args.value in
    let T = g.T.FromNode in
    let O = g.O.Slots in
    let self = c.args.self.now in
    let s : (ℤ × Option T.Shown) × O.Held = ((self.id, option_map T.shown self.found), O.held self.others) in
    let fits : FitsSigned w16 c.args.id = c.ranges.id in
    let own : FitsSigned w16 self.id = search rules in
    let same : c.args.id ≡ self.id = sym (to_z-of_z fits) ∙ ap (to_z w16) c.if-id-self.true ∙ to_z-of_z own in
    refused (ReadAs T.read (code_of v.kind) v.left) (ReadAs (slot_step T.read O.step s c.args.id) (code_of v.kind) v.left) v.bytes.now c.from_residual.result c.in_err-found.field-0.0 c.from_residual.ensures.1 c.in_err-found.ensures.which
    (here_refused T.read O.step s c.args.id (code_of v.kind) v.left ((Decides-int_eq c.args.id self.id).1 same))

pub returns-in_err-used-clause-which : goal.returns-in_err-used-clause-which
returns-in_err-used-clause-which g c =
    let v = c.args.value in
    let T = g.T.FromNode in
    let O = g.O.Slots in
    let self = c.args.self.now in
    let s : (ℤ × Option T.Shown) × O.Held = ((self.id, option_map T.shown self.found), O.held self.others) in
    let fits : FitsSigned w16 c.args.id = c.ranges.id in
    let cause = subst (λ z. HasCause (IsRefusedFor (ReadAs (O.step s.1 z) (code_of v.kind) v.left) v.bytes.now) c.in_err-used.field-0.0) (to_z-of_z fits) c.in_err-used.ensures.which in
    refused (ReadAs (O.step s.1 c.args.id) (code_of v.kind) v.left) (ReadAs (slot_step T.read O.step s c.args.id) (code_of v.kind) v.left) v.bytes.now c.from_residual-in_err-used.result c.in_err-used.field-0.0 c.from_residual-in_err-used.ensures.1 cause
    (other_refused T.read O.step s c.args.id (code_of v.kind) v.left (differ c.args.id self.id (λ e. c.if-id-self.false (ap (of_z w16) e))))
