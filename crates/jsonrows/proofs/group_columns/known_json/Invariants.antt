use Rattle.std.proofs.Common.{◌≡◌, ◌++◌, drop, map}
use Rattle.serde_json.specs.View.{view}
use Rattle.schema.specs.Views.{leaf_view}
use Rattle.statistics.specs.Bounds.{statistics_of}
use Rattle.jsonrows.specs.GroupColumns.{known_json}
use Rattle.jsonrows.proofs.group_columns.known_json.Given as goal

-- what is made so far, before what is left
abbrev pub invariant-loop-i : goal.invariant-loop-i
invariant-loop-i l = map view l.all.items ++ known_json l.texts (map leaf_view (drop l.i l.leaves)) (map statistics_of (drop l.i l.known)) ≡ known_json l.texts (map leaf_view l.leaves) (map statistics_of l.known)
