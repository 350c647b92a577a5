use Rattle.std.proofs.Common.{◌≡◌, ◌++◌, List, ℕ, sym, ap, ◌∙◌, arith}
use Rattle.json.specs.Print.{escape_letter}
use Rattle.rowtext.proofs.EscapedBytes.{low_byte}
use Rattle.rowtext.proofs.strings.put_byte.Goals as goal

pub returns-then-byte-lt32 : goal.returns-then-byte-lt32
returns-then-byte-lt32 c =
    let none : escape_letter c.args.byte ≡ 0 = sym c.escape_letter-letter.ensures ∙ omega (arith, c.if-letter-gt0.false) in
    c.in_ok-extend_from_slice.ensures.items ∙ ap (λ (s : List ℕ). c.args.out.now.items ++ s) (low_byte c.args.byte c.digit.result c.digit-then-byte-lt32.result none c.if-byte-lt32.true c.digit.ensures c.digit-then-byte-lt32.ensures)
