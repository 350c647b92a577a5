use Rattle.std.proofs.Common.{map}
use Rattle.metadata.specs.Views.{group_meta_view}
use Rattle.reports.specs.Verdict.{OnlyOfUnread}
use Rattle.reports.proofs.inspect_problems.Problems.add_of_groups.Given as goal

-- the problems that came are of groups that cannot be read
abbrev pub invariant-loop-place : goal.invariant-loop-place
invariant-loop-place l = OnlyOfUnread l.front l.schema (map group_meta_view l.groups) l.initial.self.found.items l.self.found.items
