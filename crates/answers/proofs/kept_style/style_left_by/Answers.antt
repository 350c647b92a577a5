use Rattle.std.proofs.Common.{◌≡◌, List, Some, None, ap, sym, subst, ◌∙◌, true≢false as true_not_false}
use Rattle.std.specs.Prelude.{slice_get}
use Rattle.std.proofs.lemmas.Bool.{false_from_ne_true as is_false}
use Rattle.schema.specs.Keys.{KeyColumn}
use Rattle.filter.specs.Test.{tests_in}
use Rattle.manifest.specs.Groups.{Group, group_view, groups_in}
use Rattle.answers.specs.Kept.{TellsWhichMayHold}
use Rattle.answers.proofs.FirstKept.{first_here, first_after, first_past}
use Rattle.answers.proofs.kept_style.style_left_by.Goals as goal

pub returns-then-may_hold-clause-style : goal.returns-then-may_hold-clause-style
returns-then-may_hold-clause-style c = λ is tells.
    let place = c.loop-place.place in
    let gs = groups_in c.args.table.now.groups in
    let g = group_view c.in-Some.group.now in
    let at : slice_get gs place ≡ Some g = subst (λ (hs : List Group). slice_get hs place ≡ Some g) c.groups-groups.ensures.are (sym c.in-Some.ensures) in
    let told = subst (λ (ks : List KeyColumn). TellsWhichMayHold ks (tests_in c.args.filter.now) is) (sym c.keys.ensures.are) tells in
    ap Some c.in_ok-style-in-Some.ensures.style ∙ sym (first_here is gs place g at ((told g).1 (c.may_hold.ensures.0 c.if-may_hold.true))) ∙ c.loop-place.invariant is tells

pub returns-in-None-clause-style : goal.returns-in-None-clause-style
returns-in-None-clause-style c = λ is tells.
    let place = c.loop-place.place in
    let gs = groups_in c.args.table.now.groups in
    let past : slice_get gs place ≡ None = subst (λ (hs : List Group). slice_get hs place ≡ None) c.groups-groups.ensures.are (sym c.in-None.ensures) in
    sym (first_past is gs place past) ∙ c.loop-place.invariant is tells

pub loop-place-preserved : goal.loop-place-preserved
loop-place-preserved c = λ is tells.
    let place = c.loop-place.place in
    let gs = groups_in c.args.table.now.groups in
    let g = group_view c.in-Some.group.now in
    let at : slice_get gs place ≡ Some g = subst (λ (hs : List Group). slice_get hs place ≡ Some g) c.groups-groups.ensures.are (sym c.in-Some.ensures) in
    let told = subst (λ (ks : List KeyColumn). TellsWhichMayHold ks (tests_in c.args.filter.now) is) (sym c.keys.ensures.are) tells in
    first_after is gs place g at (is_false (is g) (λ holds. true_not_false (sym (c.may_hold.ensures.1 ((told g).0 holds)) ∙ c.if-may_hold.false))) ∙ c.loop-place.invariant is tells
