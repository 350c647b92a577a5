use Rattle.std.proofs.Common.{◌≡◌, ◌+◌, ◌*◌, drop}
use Rattle.serde_json.specs.View.{items_view}
use Rattle.jsonrows.specs.inner.SchemaReading.{fields_said, said_below}
use Rattle.jsonrows.specs.inner.SchemaViews.{saids}
use Rattle.jsonrows.proofs.Said.{after}
use Rattle.jsonrows.proofs.schema_reading.+saying.Given as goal

abbrev pub decreases-say_field : goal.decreases-say_field
decreases-say_field l = 2 * l.deep

abbrev pub decreases-say_fields : goal.decreases-say_fields
decreases-say_fields l = 2 * l.deep + 1

-- what is said so far, before what the fields that are left say, is what all say
abbrev pub invariant-say_fields-loop-field : goal.invariant-say_fields-loop-field
invariant-say_fields-loop-field l =
    after (saids l.initial.all.items) (fields_said (said_below l.deep) (items_view l.fields)) ≡ after (saids l.all.items) (fields_said (said_below l.deep) (items_view (drop l.field-index l.fields)))
