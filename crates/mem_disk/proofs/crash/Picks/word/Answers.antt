use Rattle.std.proofs.Common.{◌≤◌, length, refl, rules}
use Rattle.mem_disk.proofs.Picking.{no_word, no_rest, one_word, one_rest}
use Rattle.mem_disk.proofs.crash.Picks.word.Goals as goal

pub returns-then-self-clause-word : goal.returns-then-self-clause-word
returns-then-self-clause-word c =
    let all : length c.args.self.now.words.now ≤ c.args.self.now.next = search rules in
    no_word c.args.self.now.words.now c.args.self.now.next all

pub returns-then-self-clause-left : goal.returns-then-self-clause-left
returns-then-self-clause-left c =
    let all : length c.args.self.now.words.now ≤ c.args.self.now.next = search rules in
    no_rest c.args.self.now.words.now c.args.self.now.next all

pub returns-clause-word : goal.returns-clause-word
returns-clause-word c = one_word c.args.self.now.words.now c.args.self.now.next _ refl

pub returns-clause-left : goal.returns-clause-left
returns-clause-left c = one_rest c.args.self.now.words.now c.args.self.now.next
