use Rattle.std.proofs.Common.{◌≡◌, ◌<◌, drop, length}
use Rattle.std.specs.List.{AllByRecursion}
use Rattle.schema.proofs.Marks.{AreSoFar}
use Rattle.schema.proofs.cutting.marks_at.Given as goal

-- the places so far are marked
abbrev pub invariant-loop-place : goal.invariant-loop-place
invariant-loop-place l = record {
  size : length l.marks.items ≡ l.count;
  below : AllByRecursion (λ place. place < l.count) (drop l.place-index l.places);
  so_far : AreSoFar l.places (drop l.place-index l.places) l.marks.items;
}
