use Rattle.std.proofs.Common.{ℕ, List}
use Rattle.bits.specs.Refusals.{IsFault}
use Rattle.bits.proofs.Passing.{passes}
use Rattle.schema.specs.Views.{leaf_view}
use Rattle.metadata.specs.Views.{data_page_header_view}
use Rattle.pages.specs.Left.{levels_of}
use Rattle.pages.specs.Page.{AreLevelsV1}
use Rattle.pages.specs.inner.Reading.{AreWithin}
use Rattle.pages.proofs.Sections.{second_v1}
use Rattle.pages.proofs.level_reading.read_levels_v1.Goals as goal

pub returns-in_err-definitions-clause-only : goal.returns-in_err-definitions-clause-only
returns-in_err-definitions-clause-only c =
    let leaf = leaf_view c.args.leaf.now in
    let h = data_page_header_view c.args.header.now in
    let body = c.args.body.now in
    let known = levels_of c.in_ok-repetitions.repetitions in
    passes (λ e. IsFault e → (rs ds text : List ℕ) → AreLevelsV1 leaf h body rs ds text → AreWithin leaf rs ds → ⊥) c.from_residual-in_err-definitions.result c.in_err-definitions.field-0.0 c.from_residual-in_err-definitions.ensures.1
    (λ fault rs ds text p within.
    let s = second_v1 c.one_list.ensures leaf h body rs ds text known c.in_ok-repetitions.between.now c.args.count c.requires c.in_ok-repetitions.ensures.count c.in_ok-repetitions.ensures.stands p in
    c.in_err-definitions.ensures.only fault ds text s.0 s.1 within.definitions)
