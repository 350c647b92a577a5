use Rattle.std.proofs.Common.{◌≡◌, ◌+◌, ◌++◌, length, drop, sym, ap, ap₂, ◌∙◌, arith, decimal}
use Rattle.std.proofs.lemmas.List.{drop-drop}
use Rattle.rowtext.proofs.Digits.{one_digit}
use Rattle.rowtext.proofs.integers.natural_front.Goals as goal

pub returns-then-first-eq0 : goal.returns-then-first-eq0
returns-then-first-eq0 c =
    let split = c.in_ok-first.ensures in
    let whole = one_digit _ _ _ c.in_ok-first-2.first split c.in_ok-first-2.ensures.1 c.in_ok-first-2.ensures.0 in
    (whole ∙ ap₂ (λ d r. decimal d ++ r) (omega arith) (sym (ap (drop 1) split)), omega (arith, ap length split))

pub returns : goal.returns
returns c =
    let split = c.in_ok-first.ensures in
    let whole = one_digit _ _ _ c.in_ok-first-2.first split c.in_ok-first-2.ensures.1 c.in_ok-first-2.ensures.0 in
    let n = c.in_ok-number.number in
    let count = c.in_ok-number.count in
    let back : drop (count + 1) c.args.bytes.now ≡ drop count c.in_ok-first.rest.now = ap (λ k. drop k c.args.bytes.now) (omega arith) ∙ sym (drop-drop count 1 c.args.bytes.now) ∙ ap (λ s. drop count (drop 1 s)) split in
    (whole ∙ c.in_ok-number.ensures.0 ∙ ap (λ r. decimal n ++ r) (sym back), omega (arith, ap length split, c.in_ok-number.ensures.1))
