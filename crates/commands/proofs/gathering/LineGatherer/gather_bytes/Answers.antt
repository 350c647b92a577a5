use Rattle.commands.proofs.BlocksRead.{text_gathered}
use Rattle.commands.proofs.gathering.LineGatherer.gather_bytes.Goals as goal

pub returns-in-Some-clause-gathers : goal.returns-in-Some-clause-gathers
returns-in-Some-clause-gathers g c =
    let told = c.in-Some.ensures.text in
    text_gathered c.args.bytes.now c.in-Some.text.now told.0 told.1 c.args.self.now c.gather_lines.new.self c.gather_lines.result c.gather_lines.ensures.gathers
