use Rattle.std.proofs.Common.{◌≡◌, ◌+◌, ◌*◌, ◌++◌, take, drop}
use Rattle.hex.specs.Hex.{encode_lower}
use Rattle.rowtext.proofs.hex_pairs.place_digits.Given as goal

abbrev pub invariant-loop-byte : goal.invariant-loop-byte
invariant-loop-byte l = record {
  end : l.end ≡ l.at + 2 * l.byte-index;
  placed : take l.end l.buffer ++ encode_lower (drop l.byte-index l.bytes) ≡ take l.at l.fn.buffer ++ encode_lower l.bytes;
}
