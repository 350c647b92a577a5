use Rattle.std.proofs.Common.{◌≡◌, ◌++◌, append-nil, map, min, length, ◌≤◌, sym, ap, ◌∙◌, arith}
use Rattle.serde_json.specs.View.{view}
use Rattle.jsonrows.proofs.KnownColumns.{nothing_past}
use Rattle.jsonrows.proofs.group_columns.known_json.Goals as goal

pub returns-clause-shown : goal.returns-clause-shown
returns-clause-shown c =
    let l = c.loop-i in
    let leaves = c.args.leaves.now in
    let known = c.args.known.now in
    let past : min (length known) (length leaves) ≤ l.i = omega arith in
    let made = map view l.all.items in
    sym (append-nil made) ∙ ap (λ rest. made ++ rest) (sym (nothing_past c.args.texts leaves known l.i past)) ∙ l.invariant
