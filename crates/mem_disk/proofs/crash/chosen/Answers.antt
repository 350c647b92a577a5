use Rattle.std.proofs.Common.{◌<◌, length, inr, rules}
use Rattle.mem_disk.proofs.Leaving.{among_at}
use Rattle.mem_disk.proofs.crash.chosen.Goals as goal

pub returns-then-pick-len-clause-may : goal.returns-then-pick-len-clause-may
returns-then-pick-len-clause-may c =
    let had = c.args.name.now.had.items in
    let lt : c.one_of-pick.result < length had = search rules in
    inr (among_at had c.one_of-pick.result c.index.result.now c.index.result.now lt c.index.ensures)
