use Rattle.std.proofs.Common.{◌<◌, ◌++◌, ◌∷◌, [], arith}
use Rattle.std.proofs.lemmas.Result.{on_ok_weaker}
use Rattle.schema.specs.Borrowed.{value_ref_view}
use Rattle.schema.specs.Keys.{key_columns_view, places_of}
use Rattle.assemble.specs.Sinks.{single}
use Rattle.gather.specs.Parts.{parts_view}
use Rattle.gather.proofs.CutShowing.{rest_more, cut_more, deep_single}
use Rattle.gather.proofs.cut_row.CutRow.value.Goals as goal

pub returns-then-self-gt0-clause-shown : goal.returns-then-self-gt0-clause-shown
returns-then-self-gt0-clause-shown c =
    let row = c.args.self.now in
    let columns = key_columns_view c.args.columns.now in
    let v = value_ref_view c.args.value in
    let inside : 0 < row.depth = omega (arith, c.if-self-gt0.true) in
    on_ok_weaker c.value.result (λ adds. λ before so. cut_more columns row _ before (single v) so (so.rest ++ single v ∷ []) (deep_single (places_of columns) row.place row.depth so.rest (parts_view row.key.items) v inside)
    (rest_more row.rest c.value.new.self so.rest (single v) adds so.held)) c.value.ensures.shown
