use Rattle.std.proofs.Common.{◌≡◌, suc, ◌++◌, ◌∷◌, [], sym, ◌∙◌, arith}
use Rattle.schema.specs.Borrowed.{value_ref_view}
use Rattle.schema.specs.Keys.{key_columns_view, places_of}
use Rattle.assemble.specs.Sinks.{single}
use Rattle.gather.specs.Parts.{parts_view}
use Rattle.gather.proofs.CutShowing.{rest_more, cut_more, key_single, rest_single}
use Rattle.gather.proofs.cut_row.CutRow.value_at_top.Goals as goal

pub returns-then-is_key-clause-shown : goal.returns-then-is_key-clause-shown
returns-then-is_key-clause-shown c = λ before so.
    let row = c.args.self.now in
    let columns = key_columns_view c.args.columns.now in
    let v = value_ref_view c.args.value in
    let next : c.in-Some.next ≡ suc row.place = omega (arith, c.in-Some.ensures.1) in
    cut_more columns row _ before (single v) so so.rest (key_single (places_of columns) row.place c.in-Some.next row.depth so.rest (parts_view row.key.items) _ v c.requires.top next (sym c.in_ok-is_key.ensures.is ∙ c.if-is_key.true) c.in_ok-is_key.ensures.put) so.held

pub returns-clause-shown : goal.returns-clause-shown
returns-clause-shown c = λ before so.
    let row = c.args.self.now in
    let columns = key_columns_view c.args.columns.now in
    let v = value_ref_view c.args.value in
    let next : c.in-Some.next ≡ suc row.place = omega (arith, c.in-Some.ensures.1) in
    cut_more columns row _ before (single v) so (so.rest ++ single v ∷ []) (rest_single (places_of columns) row.place c.in-Some.next row.depth so.rest (parts_view row.key.items) _ v c.requires.top next (sym c.in_ok-is_key.ensures.is ∙ c.if-is_key.false) c.in_ok-is_key.ensures.put)
    (rest_more row.rest c.value.new.self so.rest (single v) c.in_ok-value.ensures.shown so.held)
