use Rattle.std.proofs.Common.{◌≡◌, ◌++◌, drop, map}
use Rattle.serde_json.specs.View.{view}
use Rattle.jsonrows.specs.Answers.{natural}
use Rattle.jsonrows.proofs.answer_printing.numbers_json.Given as goal

-- the numbers so far, and those that are left
abbrev pub invariant-loop-number : goal.invariant-loop-number
invariant-loop-number l = map view l.all.items ++ map natural (drop l.number-index l.numbers) ≡ map natural l.numbers
