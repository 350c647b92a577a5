use Rattle.std.proofs.Common.{◌≡◌, Ok, map}
use Rattle.serde_json.specs.View.{view}
use Rattle.schema.specs.Views.{leaf_view}
use Rattle.statistics.specs.Bounds.{statistics_of}
use Rattle.jsonrows.proofs.GroupColumnFloats.{group_and_columns_none}
use Rattle.jsonrows.proofs.group_columns.group_and_columns_to.Goals as goal

pub returns-clause-stands : goal.returns-clause-stands
returns-clause-stands c =
    let d = view c.in_ok-shown.shown in
    (d, c.in_ok-shown.ensures.shown, c.in_ok-text.ensures.text (group_and_columns_none c.args.texts (map leaf_view c.args.leaves.now) c.args.group.now (map statistics_of c.args.known.now) d c.in_ok-shown.ensures.shown))
