use Rattle.std.proofs.Common.{◌≡◌, drop, map}
use Rattle.metadata.specs.Views.{chunk_meta_view}
use Rattle.upkeep.proofs.records.first_other.Given as goal

-- what is left is the same just where all is
abbrev pub invariant-loop-i : goal.invariant-loop-i
invariant-loop-i l = record {
  whole : map chunk_meta_view (drop l.i l.own) ≡ map chunk_meta_view (drop l.i l.told) → map chunk_meta_view l.own ≡ map chunk_meta_view l.told;
  left : map chunk_meta_view l.own ≡ map chunk_meta_view l.told → map chunk_meta_view (drop l.i l.own) ≡ map chunk_meta_view (drop l.i l.told);
}
