use Rattle.std.proofs.Common.{◌≡◌, map, take}
use Rattle.schema.specs.Values.{view, member_at}
use Rattle.schema.specs.Views.{row_view}
use Rattle.columns.proofs.cutting.cut_row.Given as goal

-- the values at the places so far
abbrev pub invariant-loop-place : goal.invariant-loop-place
invariant-loop-place l = map view l.values.items ≡ map (λ i. member_at i (row_view l.row)) (take l.place-index l.places)
