use Rattle.std.proofs.Common.{◌≡◌, ◌∙◌, [], List, Option, Some, None, sym, ap, subst, arith}
use Rattle.std.specs.List.{slice_get}
use Rattle.std.proofs.lemmas.Option.{same_Some}
use Rattle.lists.proofs.Options.{on_ok_weaker as ok_map}
use Rattle.manifest.specs.Groups.{Group, root_of, group_view}
use Rattle.upkeep.specs.Intact.{IsHeldIn}
use Rattle.upkeep.proofs.Looking.{looks_here, looks_most}
use Rattle.upkeep.proofs.checking.check_group_at.Goals as goal

pub returns-in-None-clause-effect : goal.returns-in-None-clause-effect
returns-in-None-clause-effect g c = let s = g.D.Disk.state c.args.vault.now.disk in looks_most 0 1 s s (omega arith) (looks_here s)

pub returns-in-None-clause-held : goal.returns-in-None-clause-held
returns-in-None-clause-held g c = λ honest empty. (
  empty,
  λ h at.
      let none : None ≡ Some h = c.in-None.ensures ∙ ap (λ (gs : List Group). slice_get gs c.args.place) c.groups.ensures.are ∙ at in
      absurd (cc none),
)

pub returns-in-Some-clause-held : goal.returns-in-Some-clause-held
returns-in-Some-clause-held g c = λ honest.
    let image = (g.D.Disk.state c.args.vault.now.disk).seen in
    let root = root_of c.args.manifest.now in
    let group = group_view c.in-Some.group.now in
    ok_map _ _ c.check_group.result
    (λ held empty.
    let both = held empty in (
      both.0,
      λ h at.
          let same : group ≡ h = same_Some group h (c.in-Some.ensures ∙ ap (λ (gs : List Group). slice_get gs c.args.place) c.groups.ensures.are ∙ at) in
          subst (IsHeldIn image root) same both.1,
    )) (c.check_group.ensures.held honest)
