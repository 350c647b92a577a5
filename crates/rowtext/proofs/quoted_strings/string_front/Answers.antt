use Rattle.std.proofs.Common.{◌≡◌, get_or, arith}
use Rattle.rowtext.proofs.Lexing.{string_passed}
use Rattle.rowtext.proofs.quoted_strings.string_front.Goals as goal

pub returns-then-bytes-at-eq34 : goal.returns-then-bytes-at-eq34
returns-then-bytes-at-eq34 c =
    let bytes = c.args.bytes.now in
    let first = c.in_ok-first in
    let opens : first.first ≡ 34 = grind (arith, c.if-first-ne34.false) in
    let closes : get_or bytes c.loop-at.at 0 ≡ 34 = grind arith in
    (omega arith, string_passed bytes first.first first._content.now c.loop-at.at first.ensures opens (omega arith) closes c.loop-at.invariant)
