use Rattle.std.proofs.Common.{◌≡◌, drop, map}
use Rattle.filter.specs.Terms.{each_of}
use Rattle.filter.proofs.Made.{before}
use Rattle.serde_json.specs.View.{view}
use Rattle.schema.specs.Values.{view as value_view}
use Rattle.jsonrows.specs.Answers.{key_value_json}
use Rattle.jsonrows.proofs.answer_printing.key_json.Given as goal

-- what is made so far, before what is left
abbrev pub invariant-loop-value : goal.invariant-loop-value
invariant-loop-value l = before (map view l.all.items) (each_of (key_value_json) (map value_view (drop l.value-index l.values))) ≡ each_of (key_value_json) (map value_view l.values)
