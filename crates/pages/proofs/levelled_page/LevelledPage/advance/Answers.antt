use Rattle.std.proofs.Common.{sym, ◌∙◌}
use Rattle.std.specs.Prelude.{◌==◌}
use Rattle.pages.specs.Left.{levels_of, values_left, value_where, value_taken}
use Rattle.pages.proofs.LevelLists.{takes_entry, by_value, no_entries_at, no_entries_at_all}
use Rattle.pages.proofs.levelled_page.LevelledPage.advance.Goals as goal

pub returns-in_default : goal.returns-in_default
returns-in_default c =
    let p = c.args.self.now in
    let none = no_entries_at_all p.greatest (levels_of p.repetitions) (levels_of p.definitions) (values_left p.values) p.index (sym c.get-definition.ensures.level ∙ c.in_default.is-1) in
    (none, none)

pub returns-in_default-2 : goal.returns-in_default-2
returns-in_default-2 c =
    let p = c.args.self.now in
    let none = no_entries_at p.greatest (levels_of p.repetitions) (levels_of p.definitions) (values_left p.values) p.index (sym c.get-repetition.ensures.level ∙ c.in_default.is-0) in
    (none, none)

pub returns : goal.returns
returns c =
    let p = c.args.self.now in
    let new = c.advance_where.new.self in
    let r = c.in-Some-Some.repetition in
    let d = c.in-Some-Some.definition in
    takes_entry p.greatest (levels_of p.repetitions) (levels_of p.definitions) (values_left p.values) (values_left new) p.index r d (value_where c.in_ok-self.field-0 (value_taken new))
    (sym c.get-repetition.ensures.level ∙ c.in-Some-Some.is-0) (sym c.get-definition.ensures.level ∙ c.in-Some-Some.is-1) (by_value (d == p.greatest) r d p.values new c.in_ok-self.field-0 c.in_ok-self.ensures)
