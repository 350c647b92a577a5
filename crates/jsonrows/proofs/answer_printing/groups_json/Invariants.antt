use Rattle.std.proofs.Common.{◌≡◌, drop, map}
use Rattle.serde_json.specs.View.{view}
use Rattle.filter.specs.Terms.{each_of}
use Rattle.filter.proofs.Made.{before}
use Rattle.jsonrows.specs.Answers.{group_json}
use Rattle.jsonrows.proofs.answer_printing.groups_json.Given as goal

-- what is made so far, before what is left
abbrev pub invariant-loop-group : goal.invariant-loop-group
invariant-loop-group l = before (map view l.all.items) (each_of group_json (drop l.group-index l.groups)) ≡ each_of group_json l.groups
