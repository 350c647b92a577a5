use Rattle.std.proofs.Common.{length, map}
use Rattle.schema.specs.Borrowed.{value_ref_view}
use Rattle.delta.specs.ByteDeltas.{IsByteLengths, StandForBytes}
use Rattle.delta.proofs.Sharing.{both_extend}
use Rattle.delta.proofs.put_prefixes.put_parts.Goals as goal

pub returns-clause-front : goal.returns-clause-front
returns-clause-front c =
    let first = c.in_ok-encode_i32.ensures.stands in
    let seen = map value_ref_view c.args.suffixes.now in
    both_extend c.encode_lengths.result (λ bytes. StandForBytes (IsByteLengths bytes (length seen)) seen) _ c.args.out.now.items c.encode_i32.new.out.items c.encode_lengths.new.out.items first.text first.joined
    c.encode_lengths.ensures.stands c.encode_lengths.ensures.unchanged
