use Rattle.std.proofs.Common.{◌++◌, ◌∷◌, []}
use Rattle.assemble.specs.Sinks.{group_ends}
use Rattle.gather.specs.Parts.{parts_view}
use Rattle.gather.proofs.CutShowing.{rest_more, cut_more, left_is}
use Rattle.gather.proofs.cut_row.CutRow.end_group.Goals as goal

pub returns-clause-shown : goal.returns-clause-shown
returns-clause-shown c = λ columns before so.
    let row = c.args.self.now in
    cut_more columns row _ before group_ends so (so.rest ++ group_ends ∷ []) (left_is row.place row.depth c.in_ok-place.place c.in_ok-place.depth so.rest (parts_view row.key.items) group_ends c.in_ok-place.ensures.left) (rest_more row.rest c.end_group.new.self so.rest group_ends c.in_ok-end_group.ensures.shown so.held)
