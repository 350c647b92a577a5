use Rattle.std.proofs.Common.{◌≡◌, ◌+◌, List, ◌∷◌, [], ◌++◌, take, subst, sym, ap, ◌∙◌}
use Rattle.std.proofs.lemmas.List.{take_more}
use Rattle.table.specs.declared.answer.GroupInfo.{GroupInfo}
use Rattle.jsonrows.specs.Answers.{group_json}
use Rattle.answers.proofs.Answered.{ArePrinted, none_printed, printed_more}
use Rattle.answers.proofs.querying.print_each_group.Goals as goal

pub loop-group-init : goal.loop-group-init
loop-group-init g c = none_printed group_json (g.W.Write.contents c.args.out.now)

pub loop-group-preserved : goal.loop-group-preserved
loop-group-preserved g c =
    let l = c.loop-group in
    let all = c.args.groups.now in
    let contents = g.W.Write.contents in
    let group = c.group-item.result in
    let grown : take (l.group-index + 1) all ≡ take l.group-index all ++ group ∷ [] =
    take_more all l.group-index group c.loop-group-test.true ∙ ap (λ (a : GroupInfo). take l.group-index all ++ a ∷ []) (sym c.group-item.is) in
    subst (λ (told : List GroupInfo). ArePrinted group_json told (contents c.args.out.now) (contents c.print_group.new.out)) (sym grown)
    (printed_more group_json (take l.group-index all) group (contents c.args.out.now) (contents l.out) (contents c.print_group.new.out) l.invariant c.in_ok-print_group.ensures.written)
