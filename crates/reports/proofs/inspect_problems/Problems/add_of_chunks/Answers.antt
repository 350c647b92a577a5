use Rattle.std.proofs.Common.{◌≡◌, refl, sym, ◌∙◌, subst, true}
use Rattle.reports.specs.Verdict.{KeepsProblems, OnlyOfGroup, NamesGroup}
use Rattle.reports.proofs.Joined.{joined}
use Rattle.reports.proofs.inspect_problems.Problems.add_of_chunks.Goals as goal
use Rattle.reports.proofs.inspect_problems.Problems.add_of_chunks.Goals.{in-Some+in_ok-column+in_ok-add, in_default}

pub returns-in_err-add-clause-only : goal.returns-in_err-add-clause-only
returns-in_err-add-clause-only c = λ p has. joined (c.loop-at.invariant.only p) (c.add.ensures.only c.args.place refl p has)

pub loop-at-preserved : goal.loop-at-preserved
loop-at-preserved c = record {
  keeps = elim c.match-branch-2.branch [
    | in-Some+in_ok-column+in_ok-add w ↦ subst (λ s. KeepsProblems c.args.self.now.found.items s.found.items) (sym w.self-is) (λ p has. w.add.ensures.keeps p (c.loop-at.invariant.keeps p has))
    | in_default w ↦ subst (λ s. KeepsProblems c.args.self.now.found.items s.found.items) (sym w.self-is) c.loop-at.invariant.keeps
  ];
  only = elim c.match-branch-2.branch [
    | in-Some+in_ok-column+in_ok-add w ↦ subst (λ s. OnlyOfGroup c.args.place c.args.self.now.found.items s.found.items) (sym w.self-is) (λ p has. joined (c.loop-at.invariant.only p) (w.add.ensures.only c.args.place refl p has))
    | in_default w ↦ subst (λ s. OnlyOfGroup c.args.place c.args.self.now.found.items s.found.items) (sym w.self-is) c.loop-at.invariant.only
  ];
  named = elim c.match-branch-2.branch [
    | in-Some+in_ok-column+in_ok-add w ↦ λ _. subst (λ s. NamesGroup c.args.place s.found.items) (sym w.self-is) (w.in_ok-add.ensures.named c.args.place refl)
    | in_default w ↦ λ some. subst (λ s. NamesGroup c.args.place s.found.items) (sym w.self-is) (c.loop-at.invariant.named (sym w.has_problems-is ∙ some))
  ];
}
