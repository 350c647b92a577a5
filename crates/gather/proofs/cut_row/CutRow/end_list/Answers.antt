use Rattle.std.proofs.Common.{◌++◌, ◌∷◌, []}
use Rattle.assemble.specs.Sinks.{list_ends}
use Rattle.gather.specs.Parts.{parts_view}
use Rattle.gather.proofs.CutShowing.{rest_more, cut_more, left_is}
use Rattle.gather.proofs.cut_row.CutRow.end_list.Goals as goal

pub returns-clause-shown : goal.returns-clause-shown
returns-clause-shown c = λ columns before so.
    let row = c.args.self.now in
    cut_more columns row _ before list_ends so (so.rest ++ list_ends ∷ []) (left_is row.place row.depth c.in_ok-place.place c.in_ok-place.depth so.rest (parts_view row.key.items) list_ends c.in_ok-place.ensures.left) (rest_more row.rest c.end_list.new.self so.rest list_ends c.in_ok-end_list.ensures.shown so.held)
