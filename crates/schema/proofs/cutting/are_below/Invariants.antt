use Rattle.std.proofs.Common.{◌<◌, drop}
use Rattle.std.specs.List.{AllByRecursion}
use Rattle.schema.proofs.cutting.are_below.Given as goal

-- all are below just where those that are left are
abbrev pub invariant-loop-place : goal.invariant-loop-place
invariant-loop-place l = record {
  whole : AllByRecursion (λ place. place < l.count) (drop l.place-index l.places) → AllByRecursion (λ place. place < l.count) l.places;
  left : AllByRecursion (λ place. place < l.count) l.places → AllByRecursion (λ place. place < l.count) (drop l.place-index l.places);
}
