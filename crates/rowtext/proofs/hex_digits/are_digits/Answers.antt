use Rattle.std.proofs.Common.{◌≡◌, ◌%◌, List, ℕ, length, true, subst, ap, arith}
use Rattle.std.proofs.lemmas.Bool.Decides.{nat_tests}
use Rattle.std.specs.List.{AllPass}
use Rattle.rowtext.specs.inner.LowerDigits.{is_lower_digit}
use Rattle.rowtext.proofs.DigitRuns.{digits_read}
use Rattle.rowtext.proofs.hex_digits.are_digits.Goals as goal

pub returns : goal.returns
returns c = λ held.
    let s = c.args.digits.now in
    let same = c.as_bytes-bytes.ensures.value in
    let long : length c.as_bytes-bytes.result.now ≡ length s = ap length same in
    let fit : c.is_length_of.result ≡ true = grind (arith, c.if-not-is_length_of.false) in
    let even : length s % 2 ≡ 0 = grind (arith, nat_tests, long) in
    digits_read c.args.kind s even (subst (λ (x : List ℕ). AllPass is_lower_digit x) same (c.are_lower_digits.ensures held)) (λ b n are. c.is_length_of.ensures fit b (omega (arith, n, long)) are)
