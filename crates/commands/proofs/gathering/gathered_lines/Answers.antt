use Rattle.std.proofs.Common.{◌∙◌}
use Rattle.commands.proofs.gathering.gathered_lines.Goals as goal

pub returns-in-Ok-clause-quiet : goal.returns-in-Ok-clause-quiet
returns-in-Ok-clause-quiet g c = λ hidden.
    let shown = c.in_ok-lines.ensures.shown ∙ hidden in
    c.clear.ensures.quiet (c.gather_file-gathered.ensures.hidden ∙ shown) ∙ c.gather_file-gathered.ensures.quiet shown

-- what is dropped with the lines, where they are refused
pub invariant_of-lines : goal.invariant_of-lines
invariant_of-lines g c = record { alike = c.gather_file-gathered.new.self.gathered.buffers.alike }
