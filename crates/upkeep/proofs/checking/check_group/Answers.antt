use Rattle.std.specs.Prelude.{IfOk}
use Rattle.std.proofs.Common.{Result, Vec, Global, ℕ, ◌≡◌, ◌∙◌, Some, sym, ap, subst, arith}
use Rattle.lists.proofs.Options.{on_ok_weaker as ok_map}
use Rattle.disk.specs.State.{content}
use Rattle.manifest.specs.Groups.{root_of, group_view}
use Rattle.upkeep.proofs.Looking.{looks_here, looks_most}
use Rattle.upkeep.specs.declared.findings.Damage.{Damage}
use Rattle.upkeep.proofs.Keeping.{held_in}
use Rattle.upkeep.proofs.checking.check_group.Goals as goal

pub returns-in_err-path-clause-effect : goal.returns-in_err-path-clause-effect
returns-in_err-path-clause-effect g c = let s = g.D.Disk.state c.args.vault.now.disk in looks_most 0 1 s s (omega arith) (looks_here s)

pub returns-in-Ok-clause-held : goal.returns-in-Ok-clause-held
returns-in-Ok-clause-held g c = λ honest.
    let image = (g.D.Disk.state c.args.vault.now.disk).seen in
    let root = root_of c.args.manifest.now in
    let group = group_view c.args.group.now in
    let path = c.as_str.result.now in
    let P : Result (Vec ℕ Global) Damage → Type 0 = λ r. IfOk r (λ b. content image path ≡ Some b.items) in
    let there = subst P c.in-Ok.is (c.in_ok-bytes.ensures.stands honest) in
    ok_map _ _ c.check_bytes.result
    (λ held empty. let both = held empty in (both.0, held_in image root group path c.as_slice.result.now (c.as_str.ensures.value ∙ c.in_ok-path.ensures.stands) (there ∙ ap Some (sym c.as_slice.ensures.value)) both.1)) c.check_bytes.ensures.held

pub returns-in-Err-clause-held : goal.returns-in-Err-clause-held
returns-in-Err-clause-held g c = λ honest. ok_map _ _ c.add_finding.result (λ none empty. absurd (none empty)) c.add_finding.ensures.found
