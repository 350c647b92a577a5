use Rattle.std.proofs.Common.{take}
use Rattle.jsonrows.specs.Answers.{answer_json_as}
use Rattle.answers.proofs.Answered.{ArePrinted}
use Rattle.answers.proofs.running.print_answers.Given as goal

-- the answers so far are printed
abbrev pub invariant-loop-answer : goal.invariant-loop-answer
invariant-loop-answer g l = ArePrinted (answer_json_as l.texts l.schema) (take l.answer-index l.answers) (g.W.Write.contents l.fn.out) (g.W.Write.contents l.out)
