use Rattle.std.proofs.Common.{◌≡◌, List, Some, None, true, refl, ap, sym, subst, ◌∙◌}
use Rattle.std.specs.Prelude.{slice_get}
use Rattle.manifest.specs.Groups.{Group, group_view, groups_in}
use Rattle.answers.proofs.FirstKept.{first_here, first_past}
use Rattle.answers.proofs.kept_style.style_of_first.Goals as goal

pub returns-in_ok-style-in-Some-clause-style : goal.returns-in_ok-style-in-Some-clause-style
returns-in_ok-style-in-Some-clause-style c =
    let gs = groups_in c.args.table.now.groups in
    let g = group_view c.in-Some.group.now in
    let at : slice_get gs 0 ≡ Some g = subst (λ (hs : List Group). slice_get hs 0 ≡ Some g) c.groups.ensures.are (sym c.in-Some.ensures) in
    ap Some c.in_ok-style-in-Some.ensures.style ∙ sym (first_here (λ _. true) gs 0 g at refl)

pub returns-in-None-clause-style : goal.returns-in-None-clause-style
returns-in-None-clause-style c =
    let gs = groups_in c.args.table.now.groups in
    let past : slice_get gs 0 ≡ None = subst (λ (hs : List Group). slice_get hs 0 ≡ None) c.groups.ensures.are (sym c.in-None.ensures) in
    sym (first_past (λ _. true) gs 0 past)
