use Rattle.std.proofs.Common.{◌<◌, List, ap, sym, ◌∙◌, subst}
use Rattle.std.specs.List.{AllByRecursion}
use Rattle.manifest.specs.declared.version.Edit.{Edit as CodeEdit}
use Rattle.manifest.specs.Groups.{Group as FileGroup, root_of, groups_in, handles_view, edits_view, spliced}
use Rattle.manifest.specs.Root.{CanHave, stored_of}
use Rattle.manifest.specs.Records.{IsGroup}
use Rattle.planning.proofs.Each.{each_placed}
use Rattle.planning.proofs.Below.{below_rises, placed_are_below}
use Rattle.table_commits.proofs.committing.with_new.Goals as goal

pub returns-clause-below : goal.returns-clause-below
returns-clause-below g c next falls above =
    let old = groups_in c.groups-version.result.now in
    let placed = c.in_ok-groups.ensures.edited ∙ ap (λ (es : List CodeEdit). spliced 0 (edits_view es) old) c.as_slice.ensures.value ∙ c.in_ok-edits.ensures.placed in
    subst (λ (gs : List FileGroup). AllByRecursion (λ (f : FileGroup). f.number < next) gs) (sym placed)
    (placed_are_below next old (handles_view c.args.new.now) (below_rises (root_of c.args.store.now.manifest).next next old falls c.groups-version.ensures.below) above)

pub returns-clause-each : goal.returns-clause-each
returns-clause-each g c above =
    let old = groups_in c.groups-version.result.now in
    let root = root_of c.args.store.now.manifest in
    let placed = c.in_ok-groups.ensures.edited ∙ ap (λ (es : List CodeEdit). spliced 0 (edits_view es) old) c.as_slice.ensures.value ∙ c.in_ok-edits.ensures.placed in
    subst (λ (gs : List FileGroup). CanHave root gs) (sym placed)
    (each_placed (IsGroup root.keys (stored_of root)) old (handles_view c.args.new.now) c.groups-version.ensures.each above)
