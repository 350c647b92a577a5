use Rattle.std.proofs.Common.{◌≡◌, Ok, drop}
use Rattle.serde_json.specs.View.{members_view}
use Rattle.schema.specs.Values.{views}
use Rattle.schema.specs.Views.{field_views}
use Rattle.jsonrows.specs.Answers.{columns_json_as}
use Rattle.jsonrows.proofs.batch_json.columns_json.Given as goal

-- the members so far are those of the last columns
abbrev pub invariant-loop-i : goal.invariant-loop-i
invariant-loop-i l = columns_json_as l.texts (field_views l.fields) (drop l.i l.places) (views (drop l.i l.values)) ≡ Ok (members_view l.members.entries)
