use Rattle.std.proofs.Common.{length, map, ap, arith}
use Rattle.schema.specs.Cutting.{is_among}
use Rattle.schema.specs.Values.{view}
use Rattle.schema.specs.Keys.{key_columns_view, places_of}
use Rattle.partition.proofs.KeyParts.{all_moved}
use Rattle.partition.proofs.splitting.without_keys.Goals as goal

pub returns-clause-stands : goal.returns-clause-stands
returns-clause-stands c =
    let values = c.args.row.now.values.items in
    let size = ap length c.deref-value-items.ensures.value in
    all_moved (is_among (places_of (key_columns_view c.args.columns.now))) values values c.loop-at.at (map view c.loop-at.values.items) (omega (arith, size)) c.loop-at.invariant
