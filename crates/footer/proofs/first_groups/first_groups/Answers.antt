use Rattle.std.proofs.Common.{◌≡◌, map, take, sym, ap, subst, ◌∙◌}
use Rattle.std.proofs.lemmas.List.{take-map}
use Rattle.metadata.specs.Views.{group_meta_view}
use Rattle.footer.specs.FirstRows.{first_groups}
use Rattle.footer.proofs.first_groups.first_groups.Goals as goal

pub returns : goal.returns
returns c =
    ap (map group_meta_view) c.truncate.ensures.items ∙ (sym (take-map group_meta_view c.groups_with.result c.args.groups.items)
    ∙ subst (λ gs. take c.groups_with.result (map group_meta_view gs) ≡ first_groups c.args.count (map group_meta_view gs)) c.as_slice.ensures.value c.groups_with.ensures)
