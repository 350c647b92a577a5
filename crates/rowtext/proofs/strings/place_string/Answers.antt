use Rattle.std.proofs.Common.{◌≡◌, rules}
use Rattle.json.specs.Print.{escape}
use Rattle.rowtext.proofs.EscapedBytes.{quotes_put}
use Rattle.rowtext.proofs.strings.place_string.Goals as goal

pub returns : goal.returns
returns c =
    let s = c.args.bytes.now in
    let plain : escape s ≡ s = search rules in
    quotes_put c.args.out.now.items c.place_byte.new.self.items c.place_plain.new.self.items c.place_byte-2.new.self.items s plain (search rules) c.place_plain.ensures.items c.place_byte-2.ensures.items
