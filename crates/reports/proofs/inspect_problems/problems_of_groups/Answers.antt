use Rattle.std.proofs.Common.{map, subst}
use Rattle.metadata.specs.Views.{group_meta_view}
use Rattle.reports.specs.Verdict.{OnlyOfUnread}
use Rattle.reports.proofs.inspect_problems.problems_of_groups.Goals as goal

pub returns : goal.returns
returns c = record {
  only = subst (λ ps. OnlyOfUnread c.args.front.now c.args.schema.now (map group_meta_view c.args.groups.now) ps c.add_of_groups.new.self.found.items) c.new-problems.ensures c.add_of_groups.ensures.only;
}
