use Rattle.std.proofs.Common.{◌≡◌, ℕ, ◌≤◌, List, length, arith}
use Rattle.std.specs.Prelude.{All}
use Rattle.bits.specs.Refusals.{IsFault}
use Rattle.bits.proofs.Passing.{passes}
use Rattle.pages.specs.Page.{IsSectionV1}
use Rattle.pages.proofs.Sections.{in_section_v1}
use Rattle.pages.proofs.level_reading.read_section_v1.Goals as goal

pub returns-in_err-levels-clause-only : goal.returns-in_err-levels-clause-only
returns-in_err-levels-clause-only c =
    let g = c.args.greatest in
    let text = c.args.bytes.now in
    passes (λ e. IsFault e → (ls rest : List ℕ) → length ls ≡ c.args.count → IsSectionV1 g c.args.encoding text ls rest → All (λ l. l ≤ g) ls → ⊥) c.from_residual-in_err-levels.result c.in_err-levels.field-0.0 c.from_residual-in_err-levels.ensures.1
    (λ fault ls rest size p. c.in_err-levels.ensures.only fault ls size (in_section_v1 g c.args.encoding text c.in_ok-section.section.now c.in_ok-section.rest.now ls rest (omega arith) c.in_ok-section.ensures.stands p))
