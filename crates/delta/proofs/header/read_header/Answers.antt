use Rattle.std.proofs.Common.{◌≡◌, ℕ, List, [], ◌∷◌, ◌*◌, ◌%◌, length, get_or, ap, refl, arith, ◌∙◌, sym}
use Rattle.std.specs.Prelude.{ℤ}
use Rattle.bits.specs.Refusals.{IsFault}
use Rattle.bits.specs.Varint.{IsUleb, zigzag_of}
use Rattle.bits.proofs.Facts.{one_uleb}
use Rattle.bits.proofs.Passing.{passes}
use Rattle.bits.proofs.Turns.{one_turn}
use Rattle.delta.specs.Delta.{IsHeader}
use Rattle.delta.proofs.header.read_header.Goals as goal

pub returns-in_err-block-clause-only : goal.returns-in_err-block-clause-only
returns-in_err-block-clause-only c =
    passes (λ e. IsFault e → (miniblocks size used : ℕ) (first : ℤ) → IsHeader c.args.bytes.now miniblocks size c.args.n first used → ⊥) c.from_residual.result c.in_err-block.field-0.0 c.from_residual.ensures.1
    (λ fault miniblocks size used first p. c.in_err-block.ensures.only fault (miniblocks * size ∷ miniblocks ∷ c.args.n ∷ zigzag_of first ∷ []) used (refl, p.says))

pub returns-then-count-n-clause-only : goal.returns-then-count-n-clause-only
returns-then-count-n-clause-only c = λ fault miniblocks size used first p.
    let there = c.in_ok-block.field-0-0 in
    let same = one_turn IsUleb one_uleb (length there) c.args.bytes.now there (miniblocks * size ∷ miniblocks ∷ c.args.n ∷ zigzag_of first ∷ []) c.in_ok-block.used used (refl, c.in_ok-block.ensures.stands) (sym (c.in_ok-block.ensures.count), p.says) in
    c.if-count-n.true (ap (λ (xs : List ℕ). get_or xs 2 0) same.0)

pub returns-in_err-size-clause-only : goal.returns-in_err-size-clause-only
returns-in_err-size-clause-only c =
    passes (λ e. IsFault e → (miniblocks size used : ℕ) (first : ℤ) → IsHeader c.args.bytes.now miniblocks size c.args.n first used → ⊥) c.from_residual-in_err-size.result c.in_err-size.field-0.0 c.from_residual-in_err-size.ensures.1
    (λ fault miniblocks size used first p.
    let there = c.in_ok-block.field-0-0 in
    let same = one_turn IsUleb one_uleb (length there) c.args.bytes.now there (miniblocks * size ∷ miniblocks ∷ c.args.n ∷ zigzag_of first ∷ []) c.in_ok-block.used used (refl, c.in_ok-block.ensures.stands) (sym (c.in_ok-block.ensures.count), p.says) in
    let block : get_or there 0 0 ≡ miniblocks * size = ap (λ (xs : List ℕ). get_or xs 0 0) same.0 in
    let parts : get_or there 1 0 ≡ miniblocks = ap (λ (xs : List ℕ). get_or xs 1 0) same.0 in
    c.in_err-size.ensures.only fault size (ap (λ (k : ℕ). k * size) parts ∙ sym block) (omega (arith, p.some, block)) (ap (λ (k : ℕ). k % 128) block ∙ p.whole) p.whole_parts)
