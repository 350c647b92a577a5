use Rattle.std.proofs.Common.{◌≡◌, ◌+◌, ◌∷◌, drop, get_or, None, sym, ap, ◌∙◌, arith}
use Rattle.std.proofs.lemmas.List.{drop_more}
use Rattle.rowtext.proofs.Turns.{part_put}
use Rattle.rowtext.proofs.spans.put_parts.Goals as goal

pub loop-i-preserved : goal.loop-i-preserved
loop-i-preserved c =
    let l = c.loop-i in
    let fs = c.args.fields.now in
    let ss = c.args.spans.now in
    let f = c.index-fields-i.result in
    let s = get_or ss l.i None in
    let left : drop l.i fs ≡ f ∷ drop (l.i + 1) fs = drop_more fs l.i f (omega arith) ∙ ap (λ y. y ∷ drop (l.i + 1) fs) (sym c.index-fields-i.is) in
    let parts : drop l.i ss ≡ s ∷ drop (l.i + 1) ss = drop_more ss l.i None (omega arith) in
    part_put fs (drop l.i fs) f (drop (l.i + 1) fs) ss (drop l.i ss) s (drop (l.i + 1) ss) c.args.read.now c.args.pieces.now.items l.pieces.items c.put_part.new.pieces.items left parts c.in_ok-put_part.ensures.there c.in_ok-put_part.ensures.grows l.invariant
