use Rattle.std.proofs.Common.{arith, rules}
use Rattle.hex.specs.Hex.{encode_lower}
use Rattle.rowtext.proofs.EscapedBytes.{digits_plain, quotes_put}
use Rattle.rowtext.proofs.strings.end_with_digits.Goals as goal

pub returns : goal.returns
returns c =
    let s = c.args.bytes.now in
    let plain = digits_plain s (λ i. let f = c.type_inv.bytes i in omega arith) in
    quotes_put c.args.out.now.items c.place_byte.new.self.items c.place_digits.new.self.items c.place_byte-2.new.self.items (encode_lower s) plain (search rules) c.place_digits.ensures.items c.place_byte-2.ensures.items
