use Rattle.std.proofs.Common.{subst, to_z-of_z, FitsSigned}
use Rattle.std.specs.Int.{w16}
use Rattle.bits.specs.Refusals.{RefusedOnly}
use Rattle.thrift_compact.specs.View.{code_of}
use Rattle.thrift_compact.specs.Values.{IsRefusedFor, ReadAs}
use Rattle.metadata.proofs.slots.TakingTakesFields.take.Goals as goal

pub returns-clause-which : goal.returns-clause-which
returns-clause-which g c =
    let v = c.args.value in
    let S = g.S.Slots in
    let fits : FitsSigned w16 c.args.id = c.ranges.id in
    subst (λ z. RefusedOnly (IsRefusedFor (ReadAs (S.step (S.held c.args.self.now.places) z) (code_of v.kind) v.left) v.bytes.now) c.keep.result) (to_z-of_z fits) c.keep.ensures.which
