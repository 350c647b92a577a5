use Rattle.std.proofs.Common.{sym, ◌∙◌}
use Rattle.pages.specs.Left.{levels_of, values_left}
use Rattle.pages.proofs.LevelLists.{shows_entry, no_entries_at, no_entries_at_all}
use Rattle.pages.proofs.levelled_page.LevelledPage.peek.Goals as goal

pub returns-in-Some-Some : goal.returns-in-Some-Some
returns-in-Some-Some c =
    let p = c.args.self.now in
    shows_entry p.greatest (levels_of p.repetitions) (levels_of p.definitions) (values_left p.values) p.index c.in-Some-Some.repetition c.in-Some-Some.definition (sym c.get-repetition.ensures.level ∙ c.in-Some-Some.is-0) (sym c.get-definition.ensures.level ∙ c.in-Some-Some.is-1)

pub returns-in_default : goal.returns-in_default
returns-in_default c =
    let p = c.args.self.now in
    no_entries_at_all p.greatest (levels_of p.repetitions) (levels_of p.definitions) (values_left p.values) p.index (sym c.get-definition.ensures.level ∙ c.in_default.is-1)

pub returns-in_default-2 : goal.returns-in_default-2
returns-in_default-2 c =
    let p = c.args.self.now in
    no_entries_at p.greatest (levels_of p.repetitions) (levels_of p.definitions) (values_left p.values) p.index (sym c.get-repetition.ensures.level ∙ c.in_default.is-0)
