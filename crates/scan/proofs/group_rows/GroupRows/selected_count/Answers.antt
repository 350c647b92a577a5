use Rattle.std.proofs.Common.{◌∙◌, Bool, List, length, ap, sym}
use Rattle.std.proofs.lemmas.List.{length-map}
use Rattle.scan.specs.Left.{joined, selected_by}
use Rattle.scan.specs.inner.Marked.{count_selected}
use Rattle.scan.proofs.Chosen.{chosen_many}
use Rattle.scan.proofs.group_rows.GroupRows.selected_count.Goals as goal

pub returns : goal.returns
returns c rows h =
    let g = c.args.self.now in
    c.count_selected.ensures
    ∙ ap (λ (marks : List Bool). count_selected marks g.count) c.as_slice.ensures.value
    ∙ sym (ap length h.selected ∙ length-map (selected_by g.marks.items h.pieces) (joined (length g.parts.items)) ∙ chosen_many g.marks.items g.count h.many h.pieces h.count)
