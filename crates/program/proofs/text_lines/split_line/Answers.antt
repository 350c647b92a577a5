use Rattle.std.proofs.Common.{◌≡◌, ◌∙◌, ap, ◌-◌, ◌∷◌, take, arith, eqb-true, sym}
use Rattle.std.proofs.lemmas.Bool.{eqb-false}
use Rattle.std.specs.Str.Lines.{lines, strip_carriage_return}
use Rattle.std.proofs.lemmas.Str.{IsCharBoundary-after_ascii}
use Rattle.program.proofs.TextLines.{first_line, found_feed, found_none}
use Rattle.program.proofs.text_lines.split_line.Goals as goal

pub range_from-requires : goal.range_from-requires
range_from-requires c =
    let w = c.args.text.now in
    let found = found_feed c.as_bytes.result.now w c.in-Some.end c.as_bytes.ensures.value c.in-Some.ensures in
    λ _. IsCharBoundary-after_ascii w c.in-Some.end c.utf8.text found.0 (omega (arith, eqb-true _ 10 found.1.0))

pub returns-in-None-clause-line : goal.returns-in-None-clause-line
returns-in-None-clause-line c = found_none c.as_bytes.result.now c.args.text.now c.as_bytes.ensures.value c.in-None.ensures (let some = eqb-false _ 0 (sym c.if-is_empty.ensures) in omega (arith, some))

pub returns-in-Some-clause-line : goal.returns-in-Some-clause-line
returns-in-Some-clause-line c =
    let w = c.args.text.now in
    let found = found_feed c.as_bytes.result.now w c.in-Some.end c.as_bytes.ensures.value c.in-Some.ensures in
    let all : c.in-Some.end - 0 ≡ c.in-Some.end = omega arith in
    let front = c.without_return.ensures ∙ ap strip_carriage_return c.range.ensures.value ∙ ap (λ n. strip_carriage_return (take n w)) all in
    first_line w c.in-Some.end found.0 found.1.0 found.1.1 ∙ (λ i. sym front i ∷ lines (sym c.range_from.ensures.value i))
