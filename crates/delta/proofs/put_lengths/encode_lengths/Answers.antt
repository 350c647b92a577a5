use Rattle.std.proofs.Common.{ℕ, List, length, map}
use Rattle.bits.specs.Refusals.{IsFault}
use Rattle.bits.proofs.Passing.{passes}
use Rattle.plain.specs.Plain.{AreBytes}
use Rattle.delta.specs.ByteDeltas.{IsByteLengths, StandForBytes}
use Rattle.delta.proofs.Fitting.{lengths_fit}
use Rattle.delta.proofs.put_lengths.encode_lengths.Goals as goal

pub returns-in_err-encoded_size-clause-only : goal.returns-in_err-encoded_size-clause-only
returns-in_err-encoded_size-clause-only g c =
    let seen = map g.V.Lends.lent c.args.values.now in
    passes (λ e. IsFault e → (bytes : List ℕ) (used : ℕ) → AreBytes bytes → StandForBytes (IsByteLengths bytes (length seen)) seen used → ⊥) c.from_residual.result c.in_err-encoded_size.field-0.0 c.from_residual.ensures.1
    (λ fault bytes used are stands. c.in_err-encoded_size.ensures.only fault (lengths_fit seen bytes used are stands))
