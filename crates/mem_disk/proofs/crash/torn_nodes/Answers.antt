use Rattle.std.proofs.Common.{◌≡◌, length, false, rules}
use Rattle.mem_disk.specs.declared.node.Node.{Node}
use Rattle.mem_disk.specs.Left.{IsTorn}
use Rattle.mem_disk.specs.Picks.{words_left, PicksNode, after_node}
use Rattle.mem_disk.proofs.Leaving.{each_more}
use Rattle.mem_disk.proofs.Picking.{turns_more, turns_all}
use Rattle.mem_disk.proofs.crash.torn_nodes.Goals as goal

pub loop-node-preserved : goal.loop-node-preserved
loop-node-preserved c =
    let made : Node = record { bytes = c.in_ok-bytes.bytes; synced = c.len-synced.result; doubted = false } in
    let long : c.len-synced.result ≡ length c.in_ok-bytes.bytes.items = search rules in
    let torn : IsTorn c.node-item.result made = record { holds = c.in_ok-bytes.ensures.may; synced = long; sure = search rules } in
    record {
      each = each_more IsTorn c.args.nodes.now c.loop-node.node-index c.node-item.result c.loop-node.left.items c.push.new.self.items made c.loop-node-test.true c.node-item.is c.loop-node.invariant.each torn c.in_ok-push.ensures.items;
      turns = turns_more PicksNode after_node c.args.nodes.now c.loop-node.node-index (words_left c.args.picks.now) (words_left c.loop-node.picks) (words_left c.torn.new.picks) c.loop-node.left.items c.push.new.self.items c.node-item.result made
          c.loop-node-test.true c.node-item.is c.loop-node.invariant.turns c.in_ok-bytes.ensures.words c.in_ok-bytes.ensures.left c.in_ok-push.ensures.items;
    }

pub returns-clause-words : goal.returns-clause-words
returns-clause-words c = turns_all PicksNode after_node c.args.nodes.now c.loop-node.node-index (words_left c.args.picks.now) (words_left c.loop-node.picks) c.loop-node.left.items c.loop-node-test.false c.loop-node.invariant.turns
