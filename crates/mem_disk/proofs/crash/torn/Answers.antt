use Rattle.std.proofs.Common.{◌≤◌, ◌*◌, ◌/◌, ◌∷◌, [], length, take, ap, ◌∙◌, arith, rules}
use Rattle.std.proofs.lemmas.List.{take-append-le}
use Rattle.mem_disk.specs.Picks.{words_left}
use Rattle.mem_disk.proofs.Picking.{sectors_more}
use Rattle.mem_disk.proofs.crash.torn.Goals as goal

pub loop-at-preserved : goal.loop-at-preserved
loop-at-preserved c =
    let node = c.args.node.now in
    let bytes = c.loop-at.bytes.items in
    let firm = 512 * (node.synced / 512) in
    let lo : firm ≤ c.loop-at.at = search rules in
    let within : firm ≤ length bytes = let long = c.loop-at.invariant.long in omega (arith, lo, long) in
    record {
      long = search rules;
      front = ap (take firm) c.in_ok-push.ensures.items ∙ take-append-le firm bytes (c.torn_byte.result ∷ []) within ∙ c.loop-at.invariant.front;
      sectors = sectors_more node (words_left c.args.picks.now) c.loop-at.at c.loop-at.word (words_left c.loop-at.picks) bytes c.sector_word-word.result (words_left c.sector_word-word.new.picks)
          lo c.loop-at.invariant.sectors c.sector_word-word.ensures.word c.sector_word-word.ensures.left
          c.torn_byte.result c.push.new.self.items c.loop-at.invariant.long c.torn_byte.ensures c.in_ok-push.ensures.items;
    }
