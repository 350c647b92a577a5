use Rattle.std.proofs.Common.{◌≡◌, drop, map}
use Rattle.std.specs.Cmp.Lexicographic.{pointwise}
use Rattle.schema.specs.Values.{view}
use Rattle.schema.specs.Views.{key_view}
use Rattle.partition.specs.Order.{is_same_key, is_same_value}
use Rattle.partition.proofs.order.same_keys.Given as goal

abbrev pub invariant-loop-i : goal.invariant-loop-i
invariant-loop-i l = pointwise is_same_value (map view (drop l.i l.a.values.items)) (map view (drop l.i l.b.values.items)) ≡ is_same_key (key_view l.a) (key_view l.b)
