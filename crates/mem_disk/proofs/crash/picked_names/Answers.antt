use Rattle.mem_disk.specs.Left.{IsPicked}
use Rattle.mem_disk.specs.Picks.{words_left, PicksBinding, after_name}
use Rattle.mem_disk.proofs.Leaving.{each_more}
use Rattle.mem_disk.proofs.Picking.{turns_more, turns_all, turns_left}
use Rattle.mem_disk.proofs.crash.picked_names.Goals as goal

pub loop-name-preserved : goal.loop-name-preserved
loop-name-preserved c = record {
  each = each_more IsPicked c.args.names.now c.loop-name.name-index c.name-item.result c.loop-name.picked.items c.push.new.self.items c.in_ok-picked_name.field-0 c.loop-name-test.true c.name-item.is c.loop-name.invariant.each c.in_ok-picked_name.ensures.may c.in_ok-push.ensures.items;
  turns = turns_more PicksBinding after_name c.args.names.now c.loop-name.name-index (words_left c.args.picks.now) (words_left c.loop-name.picks) (words_left c.picked_name.new.picks) c.loop-name.picked.items c.push.new.self.items c.name-item.result c.in_ok-picked_name.field-0
      c.loop-name-test.true c.name-item.is c.loop-name.invariant.turns c.in_ok-picked_name.ensures.words c.in_ok-picked_name.ensures.left c.in_ok-push.ensures.items;
}

pub returns-clause-words : goal.returns-clause-words
returns-clause-words c = turns_all PicksBinding after_name c.args.names.now c.loop-name.name-index (words_left c.args.picks.now) (words_left c.loop-name.picks) c.loop-name.picked.items c.loop-name-test.false c.loop-name.invariant.turns

pub returns-clause-left : goal.returns-clause-left
returns-clause-left c = turns_left PicksBinding after_name c.args.names.now c.loop-name.name-index (words_left c.args.picks.now) (words_left c.loop-name.picks) c.loop-name.picked.items c.loop-name-test.false c.loop-name.invariant.turns
