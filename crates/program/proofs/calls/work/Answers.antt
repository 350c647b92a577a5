use Rattle.program.proofs.calls.work.Goals as goal

pub returns-clause-refused : goal.returns-clause-refused
returns-clause-refused g c = λ is. (c.ended.result.is_told, c.ended.ensures.refused is)
