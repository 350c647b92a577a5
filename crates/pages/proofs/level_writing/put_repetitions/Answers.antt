use Rattle.std.proofs.Common.{◌≤◌, ◌∙◌, List, ℕ, map, sym, subst}
use Rattle.std.specs.List.{AllByRecursion}
use Rattle.schema.specs.Borrowed.{entry_ref_view}
use Rattle.schema.specs.Views.{leaf_view}
use Rattle.pages.proofs.WrittenLevels.{repetitions_within}
use Rattle.pages.proofs.level_writing.put_repetitions.Goals as goal

pub put_levels-requires-clause-within : goal.put_levels-requires-clause-within
put_levels-requires-clause-within c =
    subst (λ (l : List ℕ). AllByRecursion (λ x. x ≤ c.args.leaf.now.greatest_repetition) l) (sym (c.as_slice.ensures.value ∙ c.in_ok-levels.ensures.are)) (repetitions_within (leaf_view c.args.leaf.now) (map entry_ref_view c.args.entries.now) c.requires)
