use Rattle.std.proofs.Common.{map}
use Rattle.schema.specs.Values.{view}
use Rattle.delta.proofs.Fitting.{appends_so}
use Rattle.delta.proofs.codec.DeltaLengthsValueCodec.encode.Goals as goal

pub returns-clause-stands : goal.returns-clause-stands
returns-clause-stands c =
    appends_so c.encode_lengths.result (map view c.args.values.now) c.args.out.now.items c.encode_lengths.new.out.items c.encode_lengths.ensures.of_kind c.encode_lengths.ensures.stands
