use Rattle.std.proofs.Common.{◌≡◌, ◌≤◌, List, ◌∙◌, ap, arith}
use Rattle.manifest.specs.declared.version.Edit.{Edit as CodeEdit}
use Rattle.manifest.specs.Groups.{groups_in, edits_view, spliced}
use Rattle.table_commits.specs.Dropping.{rows_in}
use Rattle.table_commits.proofs.SomeGroups.{kept_are_no_more}
use Rattle.table_changes.proofs.dropping.without_groups.Goals as goal

pub overflow_sub-result : goal.overflow_sub-result
overflow_sub-result c =
    let old = groups_in c.args.version.now in
    let left = c.in_ok-groups.ensures.edited ∙ ap (λ (es : List CodeEdit). spliced 0 (edits_view es) old) c.as_slice.ensures.value ∙ c.in_ok-edits.ensures.removed in
    let before = c.in_ok-before.ensures.counted ∙ ap rows_in c.blocks-2.ensures in
    let after = c.in_ok-after.ensures.counted ∙ ap rows_in (c.blocks-3.ensures ∙ left) in
    let fewer = kept_are_no_more c.args.numbers.now old in
    omega (arith, before, after, fewer)

pub returns-clause-counted : goal.returns-clause-counted
returns-clause-counted c =
    let old = groups_in c.args.version.now in
    let left = c.in_ok-groups.ensures.edited ∙ ap (λ (es : List CodeEdit). spliced 0 (edits_view es) old) c.as_slice.ensures.value ∙ c.in_ok-edits.ensures.removed in
    let before = c.in_ok-before.ensures.counted ∙ ap rows_in c.blocks-2.ensures in
    let after = c.in_ok-after.ensures.counted ∙ ap rows_in (c.blocks-3.ensures ∙ left) in
    let fewer = kept_are_no_more c.args.numbers.now old in
    omega (arith, before, after, fewer)
