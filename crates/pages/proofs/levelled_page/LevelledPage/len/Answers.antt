use Rattle.std.proofs.Common.{arith}
use Rattle.pages.specs.Left.{levels_of, values_left}
use Rattle.pages.proofs.LevelLists.{count_left}
use Rattle.pages.proofs.levelled_page.LevelledPage.len.Goals as goal

pub returns : goal.returns
returns c =
    let p = c.args.self.now in
    omega (arith, count_left p.greatest (levels_of p.repetitions) (levels_of p.definitions) (values_left p.values) p.index, c.len.ensures, c.len-2.ensures, c.min-entries.ensures, c.saturating_sub.ensures)
