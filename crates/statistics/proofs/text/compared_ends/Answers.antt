use Rattle.std.proofs.Common.{◌<◌, ℕ, get_or, sym, ◌∙◌, arith}
use Rattle.statistics.proofs.Fronts.{numbers_decide, ends_decide}
use Rattle.statistics.proofs.text.compared_ends.Goals as goal

pub returns-then-number-other_number : goal.returns-then-number-other_number
returns-then-number-other_number c =
    let low : (i : ℕ) → get_or c.args.bytes.now i 0 < 256 = λ i. omega (arith, c.type_inv.bytes i) in
    let other : (i : ℕ) → get_or c.args.other.now i 0 < 256 = λ i. omega (arith, c.type_inv.other i) in
    c.cmp.ensures ∙ numbers_decide c.args.bytes.now c.args.other.now c.front_of-number.result c.front_of-other_number.result low other c.front_of-number.ensures c.front_of-other_number.ensures c.if-number-other_number.true

pub returns : goal.returns
returns c =
    let low : (i : ℕ) → get_or c.args.bytes.now i 0 < 256 = λ i. omega (arith, c.type_inv.bytes i) in
    let other : (i : ℕ) → get_or c.args.other.now i 0 < 256 = λ i. omega (arith, c.type_inv.other i) in
    let same = sym c.front_of-number.ensures ∙ c.if-number-other_number.false ∙ c.front_of-other_number.ensures in
    c.cmp-2.ensures ∙ ends_decide c.args.bytes.now c.args.other.now low other c.requires same
