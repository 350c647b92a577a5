use Rattle.std.proofs.Common.{map}
use Rattle.table.specs.Views.{calls_view}
use Rattle.jsonrows.specs.Scripts.{next_schema}
use Rattle.answers.specs.Lines.{AreCallTexts}
use Rattle.answers.proofs.running.calls_of.Given as goal

-- the lines so far are the calls so far, and lead to the schema of the next line
abbrev pub invariant-loop-line : goal.invariant-loop-line
invariant-loop-line l = AreCallTexts l.texts l.schema (map (λ text. text.now) l.yielded) (calls_view l.calls.items) (next_schema l.reader)
