use Rattle.std.proofs.Common.{◌≡◌, ℕ, ◌≤◌, List, length, sym, subst, ◌∙◌, rules}
use Rattle.std.specs.Prelude.{All}
use Rattle.std.proofs.lemmas.Bool.{false≢true}
use Rattle.std.proofs.lemmas.List.{map-id}
use Rattle.hybrid_rle.specs.Hybrid.{IsHybrid}
use Rattle.bits.specs.Refusals.{IsFault}
use Rattle.bits.proofs.Passing.{passes}
use Rattle.pages.specs.Page.{AreLevels}
use Rattle.pages.proofs.Sections.{of_width_and_count, none_within}
use Rattle.pages.proofs.level_reading.read_levels.Goals as goal

pub returns-in_err-levels-clause-only : goal.returns-in_err-levels-clause-only
returns-in_err-levels-clause-only c =
    let g = c.args.greatest in
    let text = c.args.bytes.now in
    passes (λ e. IsFault e → (ls : List ℕ) → length ls ≡ c.args.count → AreLevels g text ls → All (λ l. l ≤ g) ls → ⊥) c.from_residual.result c.in_err-levels.field-0.0 c.from_residual.ensures.1
    (λ fault ls size p within. c.in_err-levels.ensures.only fault ls p.used (of_width_and_count g c.width_of.result c.args.count text ls c.width_of.ensures.holds c.width_of.ensures.least size p))

pub returns-then-not-are_within-clause-only : goal.returns-then-not-are_within-clause-only
returns-then-not-are_within-clause-only c = λ fault.
    let g = c.args.greatest in
    let known = c.in_ok-levels.levels.items in
    let size : length known ≡ c.args.count = search rules in
    let w = c.width_of.result in
    let used = c.in_ok-levels.field-0-1 in
    let here : IsHybrid w c.args.bytes.now c.args.count known used = subst (λ (ls : List ℕ). IsHybrid w c.args.bytes.now c.args.count ls used) (map-id known) c.in_ok-levels.ensures.stands in
    let packed : IsHybrid w c.args.bytes.now (length known) known used = subst (λ (n : ℕ). IsHybrid w c.args.bytes.now n known used) (sym size) here in
    let stand : AreLevels g c.args.bytes.now known = record { width = c.width_of.result; used = c.in_ok-levels.field-0-1; holds = c.width_of.ensures.holds; least = c.width_of.ensures.least; packed = packed } in
    none_within c.one_list.ensures g c.args.count c.args.bytes.now known stand size (λ (all : All (λ l. l ≤ g) known). false≢true (sym c.if-not-are_within.true ∙ c.are_within.ensures.1 (subst (All (λ l. l ≤ g)) (sym c.deref.ensures.value) all)))
