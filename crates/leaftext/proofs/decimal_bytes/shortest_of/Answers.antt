use Rattle.std.proofs.Common.{◌∙◌, ap, sym, to_z, of_z, to_z-of_z, FitsSigned}
use Rattle.std.specs.Int.{w128}
use Rattle.leaftext.specs.Bytes.{shortest_bytes}
use Rattle.leaftext.proofs.BytesTexts.{is_shortest}
use Rattle.leaftext.proofs.decimal_bytes.shortest_of.Goals as goal

pub returns : goal.returns
returns c =
    let fits : FitsSigned w128 c.args.number = c.ranges.number in
    let called = c.shortest_bytes_of.ensures in
    sym (is_shortest (to_z w128 (of_z w128 c.args.number)) c.shortest_bytes_of.result.items (called.number, called.bytes, called.shortest, called.length)) ∙ ap shortest_bytes (to_z-of_z fits)
