use Rattle.reports.proofs.Joined.{of_unread}
use Rattle.reports.proofs.inspect_problems.Problems.add_at.Goals as goal

pub returns-then-place-groups : goal.returns-then-place-groups
returns-then-place-groups c = record {
  only = of_unread c.args.front.now c.args.schema.now c.args.groups.now c.args.place c.index-groups-place.result c.if-place-groups.true c.index-groups-place.is
      c.args.self.now.found.items c.add_if_refused.new.self.found.items c.add_if_refused.ensures.only;
}
