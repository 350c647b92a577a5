use Rattle.std.proofs.Common.{◌≡◌, [], sym, subst}
use Rattle.std.proofs.lemmas.Option.{MatchOption-at_none}
use Rattle.lists.proofs.Options.{on_ok_weaker as ok_map}
use Rattle.schema.specs.Shape.{Fields}
use Rattle.manifest.specs.Groups.{root_of, group_view}
use Rattle.manifest.specs.Root.{stored_of}
use Rattle.upkeep.specs.Intact.{HoldsRows}
use Rattle.upkeep.proofs.checking.check_bytes.Goals as goal

pub returns-in-Some : goal.returns-in-Some
returns-in-Some c = record { held = ok_map _ _ c.add_fault.result (λ none empty. absurd (none empty)) c.add_fault.ensures.found }

pub returns-in-None : goal.returns-in-None
returns-in-None c =
    let group = group_view c.args.group.now in
    let bytes = c.args.bytes.now in
    let holds = MatchOption-at_none (HoldsRows c.stored.result.now group bytes) (λ _. Unit {0}) c.in-None.is c.in_ok-fault.ensures.holds in
    record { held = λ empty. (empty, subst (λ (fs : Fields). HoldsRows fs group bytes) c.stored.ensures holds) }
