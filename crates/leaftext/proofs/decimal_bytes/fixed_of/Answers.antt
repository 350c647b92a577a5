use Rattle.std.proofs.Common.{◌∙◌, ap, ℕ, arith, to_z, of_z, to_z-of_z, FitsSigned}
use Rattle.std.specs.Int.{w128}
use Rattle.arrayvec.specs.ArrayVec.{ArrayVec}
use Rattle.leaftext.specs.Bytes.{fixed_bytes}
use Rattle.leaftext.proofs.BytesTexts.{was_fixed}
use Rattle.leaftext.proofs.decimal_bytes.fixed_of.Goals as goal

pub returns : goal.returns
returns c =
    let fits : FitsSigned w128 c.args.number = c.ranges.number in
    let called = c.bytes_of.ensures in
    was_fixed (λ (b : ArrayVec ℕ). b.items) c.args.len (to_z w128 (of_z w128 c.args.number)) c.bytes_of.result (omega arith) (omega arith) called.number called.length called.bytes called.none ∙ ap (fixed_bytes c.args.len) (to_z-of_z fits)
