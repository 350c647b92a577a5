use Rattle.std.proofs.Common.{◌+◌, ◌*◌, ◌<◌, ◌≤◌, ℕ, length, get_or, slice_index, ap, ◌∙◌, arith}
use Rattle.hex.specs.Hex.{lower_digits}
use Rattle.hex.proofs.HexLemmas.{length-encode_with}
use Rattle.rowtext.specs.declared.hex_pairs.TheConstants.{PAIRS}
use Rattle.rowtext.proofs.HexPairs.{pair_at, pair_placed, all_placed}
use Rattle.rowtext.proofs.hex_pairs.place_digits.Goals as goal

pub loop-byte-preserved : goal.loop-byte-preserved
loop-byte-preserved c =
    let bytes = c.args.bytes.now in
    let i = c.loop-byte.byte-index in
    let small : slice_index bytes i < 256 = let f = c.type_inv.bytes i in omega arith in
    let pair = pair_at (slice_index bytes i) small in
    let within : i < length bytes = c.loop-byte-test.true in
    let room : c.loop-byte.end + 1 < length c.loop-byte.buffer = omega (arith, c.requires, within, c.loop-byte.invariant.end, c.loop-byte.auto.buffer) in
    record {
      end = omega (arith, c.loop-byte.invariant.end);
      placed = pair_placed _ c.loop-byte.buffer bytes i c.loop-byte.end _ _ within room (ap (λ (k : ℕ). get_or PAIRS (k * 2) 0) c.from-from.ensures ∙ pair.0) (ap (λ (k : ℕ). get_or PAIRS (k * 2 + 1) 0) c.from-from.ensures ∙ pair.1) c.loop-byte.invariant.placed;
    }

pub returns-clause-placed : goal.returns-clause-placed
returns-clause-placed c =
    let bytes = c.args.bytes.now in
    let over : length bytes ≤ c.loop-byte.byte-index = c.loop-byte-test.false in
    record {
      bytes = all_placed _ c.loop-byte.buffer bytes c.loop-byte.byte-index c.loop-byte.end over c.loop-byte.invariant.placed;
      moved = omega (arith, c.loop-byte.invariant.end, over, c.loop-byte.auto.byte-index-end, length-encode_with lower_digits bytes);
      len = c.loop-byte.auto.buffer;
    }
