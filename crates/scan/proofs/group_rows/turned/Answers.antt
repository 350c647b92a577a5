use Rattle.std.proofs.Common.{◌≡◌, ◌∙◌, ◌++◌, Bool, not, List, map, sym, ap}
use Rattle.std.proofs.lemmas.List.{append-nil, drop_all}
use Rattle.scan.proofs.Chosen.{turned_none, turned_each}
use Rattle.scan.proofs.Passages.{ok_weaker}
use Rattle.scan.proofs.group_rows.turned.Goals as goal

pub returns-then-is_empty-clause-turned : goal.returns-then-is_empty-clause-turned
returns-then-is_empty-clause-turned c =
    ok_weaker c.none_marked.result (λ made is. is ∙ turned_none c.args.count c.args.marks.now (sym c.is_empty.ensures ∙ c.if-is_empty.true)) c.none_marked.ensures.marks

pub returns-clause-turned : goal.returns-clause-turned
returns-clause-turned c =
    let marks = c.args.marks.now in
    let set = c.loop-mark.others.items in
    let all : set ≡ map not marks
    = sym (append-nil set) ∙ ap (λ (ms : List Bool). set ++ map not ms) (sym (drop_all c.loop-mark.mark-index marks c.loop-mark-test.false)) ∙ c.loop-mark.invariant in
    all ∙ turned_each c.args.count marks (sym c.is_empty.ensures ∙ c.if-is_empty.false)
