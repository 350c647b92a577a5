use Rattle.std.proofs.Common.{◌≡◌, true}
use Rattle.reports.specs.Verdict.{KeepsProblems, OnlyOfGroup, NamesGroup}
use Rattle.reports.proofs.inspect_problems.Problems.add_of_chunks.Given as goal

-- the problems that came are of the group, and one is there where some were found
abbrev pub invariant-loop-at : goal.invariant-loop-at
invariant-loop-at l = record {
  keeps : KeepsProblems l.initial.self.found.items l.self.found.items;
  only : OnlyOfGroup l.place l.initial.self.found.items l.self.found.items;
  named : l.has_problems ≡ true → NamesGroup l.place l.self.found.items;
}
