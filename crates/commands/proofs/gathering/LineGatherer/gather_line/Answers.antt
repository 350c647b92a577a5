use Rattle.std.proofs.Common.{refl}
use Rattle.commands.proofs.BlocksRead.{line_added}
use Rattle.commands.proofs.gathering.LineGatherer.gather_line.Goals as goal

pub returns-clause-gathers : goal.returns-clause-gathers
returns-clause-gathers c =
    let added = c.add_line-added.ensures in
    line_added c.args.line.now c.args.self.now _ c.add_line-added.result added.stands added.which added.table added.same refl
