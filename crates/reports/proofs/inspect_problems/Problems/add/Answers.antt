use Rattle.std.proofs.Common.{◌≡◌, List, ◌++◌, ◌∷◌, [], length, sym, subst}
use Rattle.std.specs.Prelude.{Contains}
use Rattle.std.proofs.lemmas.List.Elements.{Contains-push}
use Rattle.reports.specs.declared.inspect_report.Problem.{Problem}
use Rattle.reports.proofs.inspect_problems.Problems.add.Goals as goal

pub returns-clause-named : goal.returns-clause-named
returns-clause-named c = λ k is few.
    let added : Problem = record { column = c.match-column.column; group = c.args.group; what = c.args.what } in
    (added, subst (λ ps. Contains ps added) (sym c.in_ok-push.ensures.items) (Contains-push c.args.self.now.found.items added), is)
