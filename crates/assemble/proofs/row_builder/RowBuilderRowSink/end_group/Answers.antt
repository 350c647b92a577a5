use Rattle.std.proofs.Common.{refl, Option, option_map, subst}
use Rattle.std.proofs.lemmas.Result.{on_ok_weaker}
use Rattle.std.specs.Global.{Vec}
use Rattle.schema.specs.declared.value.Value.{Value}
use Rattle.schema.specs.Values.{group, views}
use Rattle.schema.proofs.OneLevel.{view_group}
use Rattle.assemble.specs.Sinks.{group_ends}
use Rattle.assemble.specs.inner.Building.{TakesOff}
use Rattle.assemble.proofs.BuiltRows.{shown, closes, closes_none}
use Rattle.assemble.proofs.row_builder.RowBuilderRowSink.end_group.Goals as goal

pub returns-in-Some : goal.returns-in-Some
returns-in-Some c =
    let ended = subst (λ (o : Option (Vec Value)). TakesOff c.args.self.now c.end.new.self (option_map (λ (vs : Vec Value). views vs.items) o)) c.in-Some.is c.in_ok-values.ensures.ended in
    record { shown = on_ok_weaker c.push.result (λ gains. shown c.args.self.now c.push.new.self group_ends (closes group c.args.self.now c.end.new.self c.push.new.self _ _ (view_group c.in-Some.values) ended gains)) c.push.ensures.gains; base_stays = refl }

pub returns-in-None : goal.returns-in-None
returns-in-None c =
    let ended = subst (λ (o : Option (Vec Value)). TakesOff c.args.self.now c.end.new.self (option_map (λ (vs : Vec Value). views vs.items) o)) c.in-None.is c.in_ok-values.ensures.ended in
    record { shown = shown c.args.self.now c.end.new.self group_ends (closes_none group c.args.self.now c.end.new.self ended); base_stays = refl }
