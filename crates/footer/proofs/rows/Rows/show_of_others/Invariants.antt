use Rattle.std.proofs.Common.{◌≡◌, List, length}
use Rattle.schema.specs.Values.{ValueTrees}
use Rattle.footer.specs.Left.{others_hold}
use Rattle.footer.proofs.rows.Rows.show_of_others.Given as goal

-- what stood at first is left in the groups that are not begun, and nothing was shown
abbrev pub invariant-loop-self : goal.invariant-loop-self
invariant-loop-self g l = record {
  held : (rows : List ValueTrees) → others_hold l.fn.self rows → others_hold l.self rows;
  unshown : l.sink ≡ l.fn.sink;
}

abbrev pub decreases-loop-self : goal.decreases-loop-self
decreases-loop-self g l = length l.self.others.groups
