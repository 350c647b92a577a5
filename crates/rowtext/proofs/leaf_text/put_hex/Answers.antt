use Rattle.std.proofs.lemmas.Result.{on_ok_weaker}
use Rattle.rowtext.proofs.HexObjects.{hex_put}
use Rattle.rowtext.proofs.leaf_text.put_hex.Goals as goal

pub returns : goal.returns
returns c =
    on_ok_weaker c.push.result (λ is. hex_put c.args.out.now.items c.extend_from_slice.new.self.items c.put_digits.new.out.items c.push.new.self.items c.args.bytes.now c.in_ok-extend_from_slice.ensures.items c.in_ok-put_digits.ensures is) c.push.ensures.items
