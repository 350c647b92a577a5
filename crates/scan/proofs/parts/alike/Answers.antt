use Rattle.std.proofs.Common.{take}
use Rattle.schema.specs.Keys.{key_columns_view, places_of}
use Rattle.scan.proofs.PartsMade.{alike_by}
use Rattle.scan.proofs.parts.alike.Goals as goal

pub returns-else-is_stored-first-clause-alike : goal.returns-else-is_stored-first-clause-alike
returns-else-is_stored-first-clause-alike c = alike_by (places_of (key_columns_view c.args.keys.now)) c.args.width (take c.alike.count c.args.places.now) _ c.alike.invariant.same

pub returns-after-alike-clause-alike : goal.returns-after-alike-clause-alike
returns-after-alike-clause-alike c = alike_by (places_of (key_columns_view c.args.keys.now)) c.args.width (take c.alike.count c.args.places.now) _ c.alike.invariant.same
