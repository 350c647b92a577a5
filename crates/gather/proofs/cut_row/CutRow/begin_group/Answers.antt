use Rattle.std.proofs.Common.{◌≡◌, ℕ, suc, ◌++◌, ◌∷◌, [], ap, arith}
use Rattle.assemble.specs.Sinks.{group_begins}
use Rattle.gather.specs.Parts.{parts_view}
use Rattle.gather.specs.CutRows.{cut_at}
use Rattle.gather.proofs.CutShowing.{rest_more, cut_more}
use Rattle.gather.proofs.cut_row.CutRow.begin_group.Goals as goal

pub returns-clause-shown : goal.returns-clause-shown
returns-clause-shown c = λ columns before so.
    let row = c.args.self.now in
    let rest = so.rest ++ group_begins ∷ [] in
    let deeper : c.in-Some.deeper ≡ suc row.depth = omega (arith, c.in-Some.ensures.1) in
    cut_more columns row _ before group_begins so rest (ap (λ (n : ℕ). cut_at row.place n rest (parts_view row.key.items)) deeper) (rest_more row.rest c.begin_group.new.self so.rest group_begins c.in_ok-begin_group.ensures.shown so.held)
