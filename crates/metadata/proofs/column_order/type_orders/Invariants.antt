use Rattle.std.proofs.Common.{◌≡◌, map, replicate}
use Rattle.metadata.specs.Records.{type_order}
use Rattle.metadata.specs.Views.{column_order_view}
use Rattle.metadata.proofs.column_order.type_orders.Given as goal

abbrev pub invariant-loop : goal.invariant-loop
invariant-loop l = map column_order_view l.orders.items ≡ replicate l.counter type_order
