use Rattle.std.proofs.Common.{◌∙◌, Bool, List, map, length, refl, ap, sym}
use Rattle.scan.specs.Left.{joined, selected_by, turned}
use Rattle.scan.proofs.Chosen.{turned_many}
use Rattle.scan.proofs.group_rows.GroupRows.others.Goals as goal

pub returns-clause-others : goal.returns-clause-others
returns-clause-others c rows h =
    let g = c.args.self in
    let is = c.in_ok-others.ensures.turned ∙ ap (λ (ms : List Bool). turned g.count ms) c.as_slice.ensures.value in
    record {
      pieces = h.pieces;
      count = h.count;
      many = λ some. ap length is ∙ turned_many g.count g.marks.items h.many;
      parts = h.parts;
      selected = h.others ∙ ap (λ (ms : List Bool). map (joined (length g.parts.items)) (selected_by ms h.pieces)) (sym is);
    }

pub returns-clause-accepted : goal.returns-clause-accepted
returns-clause-accepted c rows h =
    let g = c.args.self in
    let is = c.in_ok-others.ensures.turned ∙ ap (λ (ms : List Bool). turned g.count ms) c.as_slice.ensures.value in (
      map (joined (length g.parts.items)) (selected_by c.in_ok-others.others.items h.pieces),
      record {
        pieces = h.pieces;
        count = h.count;
        many = λ some. ap length is ∙ turned_many g.count g.marks.items h.many;
        parts = h.parts;
        selected = refl;
      },
    )
