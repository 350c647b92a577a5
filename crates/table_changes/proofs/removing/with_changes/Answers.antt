use Rattle.std.proofs.Common.{◌<◌, List, ap, sym, ◌∙◌, subst}
use Rattle.std.specs.List.{AllByRecursion}
use Rattle.manifest.specs.declared.version.Edit.{Edit as CodeEdit}
use Rattle.manifest.specs.Groups.{Group as FileGroup, root_of, groups_in, edits_view, spliced}
use Rattle.planning.specs.Replaced.{changes_view}
use Rattle.manifest.specs.Root.{CanHave, stored_of}
use Rattle.manifest.specs.Records.{IsGroup}
use Rattle.planning.proofs.Each.{each_replaced}
use Rattle.planning.proofs.Below.{below_rises, replaced_are_below}
use Rattle.table_changes.proofs.removing.with_changes.Goals as goal

pub returns-clause-below : goal.returns-clause-below
returns-clause-below g c next falls above =
    let old = groups_in c.groups-version.result.now in
    let replaced = c.in_ok-groups.ensures.edited ∙ ap (λ (es : List CodeEdit). spliced 0 (edits_view es) old) c.as_slice.ensures.value ∙ c.in_ok-edits.ensures.replaced in
    subst (λ (gs : List FileGroup). AllByRecursion (λ (f : FileGroup). f.number < next) gs) (sym replaced)
    (replaced_are_below next (changes_view c.args.changes.now) old (below_rises (root_of c.args.store.now.manifest).next next old falls c.groups-version.ensures.below) above)

pub returns-clause-each : goal.returns-clause-each
returns-clause-each g c above =
    let old = groups_in c.groups-version.result.now in
    let root = root_of c.args.store.now.manifest in
    let replaced = c.in_ok-groups.ensures.edited ∙ ap (λ (es : List CodeEdit). spliced 0 (edits_view es) old) c.as_slice.ensures.value ∙ c.in_ok-edits.ensures.replaced in
    subst (λ (gs : List FileGroup). CanHave root gs) (sym replaced)
    (each_replaced (IsGroup root.keys (stored_of root)) (changes_view c.args.changes.now) old c.groups-version.ensures.each above)
