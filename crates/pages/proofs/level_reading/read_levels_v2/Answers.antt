use Rattle.std.proofs.Common.{◌≡◌, ℕ, List, length, subst, sym, ◌∙◌, rules, to_z, of_z, w32}
use Rattle.std.specs.Prelude.{ℤ}
use Rattle.bits.specs.Refusals.{IsFault}
use Rattle.bits.proofs.Passing.{passes}
use Rattle.schema.specs.Views.{leaf_view}
use Rattle.metadata.specs.Views.{data_page_header_v2_view}
use Rattle.pages.specs.Left.{levels_of}
use Rattle.pages.specs.Page.{IsSectionV2, AreLevelsV2}
use Rattle.pages.specs.inner.Reading.{AreWithin}
use Rattle.pages.proofs.Sections.{count_is, second_v2}
use Rattle.pages.proofs.level_reading.read_levels_v2.Goals as goal

pub returns-in_err-repetitions-clause-only : goal.returns-in_err-repetitions-clause-only
returns-in_err-repetitions-clause-only c =
    let leaf = leaf_view c.args.leaf.now in
    let h = data_page_header_v2_view c.args.header.now in
    let size_is : to_z w32 (of_z w32 h.repetition_levels_byte_length) ≡ h.repetition_levels_byte_length = search rules in
    passes (λ e. IsFault e → (rs ds text : List ℕ) → AreLevelsV2 leaf h c.args.body.now rs ds text → AreWithin leaf rs ds → ⊥) c.from_residual.result c.in_err-repetitions.field-0.0 c.from_residual.ensures.1
    (λ fault rs ds text p within. c.in_err-repetitions.ensures.only fault rs p.between (p.paired ∙ count_is h.num_values (length ds) c.args.count p.count c.requires)
    (subst (λ (z : ℤ). IsSectionV2 leaf.greatest_repetition z c.args.body.now rs p.between) (sym size_is) p.first) within.repetitions)

pub returns-in_err-definitions-clause-only : goal.returns-in_err-definitions-clause-only
returns-in_err-definitions-clause-only c =
    let leaf = leaf_view c.args.leaf.now in
    let h = data_page_header_v2_view c.args.header.now in
    let body = c.args.body.now in
    let first_is : to_z w32 (of_z w32 h.repetition_levels_byte_length) ≡ h.repetition_levels_byte_length = search rules in
    let second_is : to_z w32 (of_z w32 h.definition_levels_byte_length) ≡ h.definition_levels_byte_length = search rules in
    let known = levels_of c.in_ok-repetitions.repetitions in
    passes (λ e. IsFault e → (rs ds text : List ℕ) → AreLevelsV2 leaf h body rs ds text → AreWithin leaf rs ds → ⊥) c.from_residual-in_err-definitions.result c.in_err-definitions.field-0.0 c.from_residual-in_err-definitions.ensures.1
    (λ fault rs ds text p within.
    let s = second_v2 c.one_list.ensures leaf h body rs ds text known c.in_ok-repetitions.between.now c.args.count c.requires c.in_ok-repetitions.ensures.count (subst (λ (z : ℤ). IsSectionV2 leaf.greatest_repetition z body known c.in_ok-repetitions.between.now) first_is c.in_ok-repetitions.ensures.stands) p in
    c.in_err-definitions.ensures.only fault ds text s.0 (subst (λ (z : ℤ). IsSectionV2 leaf.greatest_definition z c.in_ok-repetitions.between.now ds text) (sym second_is) s.1) within.definitions)
