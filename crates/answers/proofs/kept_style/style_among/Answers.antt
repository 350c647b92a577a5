use Rattle.std.proofs.Common.{◌≡◌, List, Some, None, ap, sym, subst, ◌∙◌}
use Rattle.std.specs.Prelude.{slice_get}
use Rattle.manifest.specs.Groups.{Group, group_view, groups_in}
use Rattle.answers.specs.Kept.{is_numbered}
use Rattle.answers.proofs.FirstKept.{first_here, first_after, first_past}
use Rattle.answers.proofs.kept_style.style_among.Goals as goal

pub returns-then-is_numbered-clause-style : goal.returns-then-is_numbered-clause-style
returns-then-is_numbered-clause-style c =
    let place = c.loop-place.place in
    let gs = groups_in c.args.table.now.groups in
    let g = group_view c.in-Some.group.now in
    let at : slice_get gs place ≡ Some g = subst (λ (hs : List Group). slice_get hs place ≡ Some g) c.groups-groups.ensures.are (sym c.in-Some.ensures) in
    ap Some c.in_ok-style-in-Some.ensures.style ∙ sym (first_here (is_numbered c.args.numbers.now) gs place g at (sym c.is_numbered.ensures ∙ c.if-is_numbered.true)) ∙ c.loop-place.invariant

pub returns-in-None-clause-style : goal.returns-in-None-clause-style
returns-in-None-clause-style c =
    let place = c.loop-place.place in
    let gs = groups_in c.args.table.now.groups in
    let past : slice_get gs place ≡ None = subst (λ (hs : List Group). slice_get hs place ≡ None) c.groups-groups.ensures.are (sym c.in-None.ensures) in
    sym (first_past (is_numbered c.args.numbers.now) gs place past) ∙ c.loop-place.invariant

pub loop-place-preserved : goal.loop-place-preserved
loop-place-preserved c =
    let place = c.loop-place.place in
    let gs = groups_in c.args.table.now.groups in
    let g = group_view c.in-Some.group.now in
    let at : slice_get gs place ≡ Some g = subst (λ (hs : List Group). slice_get hs place ≡ Some g) c.groups-groups.ensures.are (sym c.in-Some.ensures) in
    first_after (is_numbered c.args.numbers.now) gs place g at (sym c.is_numbered.ensures ∙ c.if-is_numbered.false) ∙ c.loop-place.invariant
