use Rattle.std.proofs.Common.{map, arith}
use Rattle.bits.specs.Codec.{NothingStands}
use Rattle.schema.specs.Values.{view}
use Rattle.delta.specs.ByteDeltas.{IsByteLengths, StandForBytes, AreByLengths}
use Rattle.delta.proofs.Fitting.{are_bytes, by_lengths, read_so, none_so}
use Rattle.delta.proofs.codec.DeltaLengthsValueCodec.decode.Goals as goal

pub returns-clause-stands : goal.returns-clause-stands
returns-clause-stands c =
    let text = c.args.bytes.now in
    let n = c.args.n in
    read_so c.decode_lengths.result (λ x. StandForBytes (IsByteLengths text n) (map view x.0.items) x.1) (λ x. AreByLengths n text (map view x.0.items) x.1)
    (λ x p. by_lengths n text (map view x.0.items) x.1 (are_bytes text (λ i. omega (arith, c.type_inv.bytes i))) p) c.decode_lengths.ensures.stands

pub returns-clause-only : goal.returns-clause-only
returns-clause-only c =
    let text = c.args.bytes.now in
    none_so c.decode_lengths.result (NothingStands (IsByteLengths text c.args.n)) (NothingStands (AreByLengths c.args.n text)) (λ none values used p. none p.stand.texts used p.stand.stand) c.decode_lengths.ensures.only
