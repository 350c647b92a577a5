use Rattle.std.specs.Prelude.{⊤}
use Rattle.commands.proofs.BlocksRead.{text_gathered, no_text}
use Rattle.commands.proofs.gathering.LineGatherer.gather_text.Goals as goal

pub returns-in-Some-clause-gathers : goal.returns-in-Some-clause-gathers
returns-in-Some-clause-gathers g c =
    let told = c.in-Some.ensures.text in
    text_gathered c.args.line.now c.in-Some.text.now told.0 told.1 c.args.self.now c.gather_lines.new.self c.gather_lines.result c.gather_lines.ensures.gathers

pub returns-in-None-clause-gathers : goal.returns-in-None-clause-gathers
returns-in-None-clause-gathers g c = no_text ⊤ c.args.line.now c.requires c.in-None.ensures.text c.args.self.now c.args.self.now
