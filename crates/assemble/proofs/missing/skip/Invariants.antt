use Rattle.std.proofs.Common.{◌≡◌, map, length}
use Rattle.assemble.specs.Columns.{Fronts}
use Rattle.assemble.specs.Sources.{CausesStay}
use Rattle.assemble.specs.Standing.{HaveCause, Onward, Backward}
use Rattle.assemble.specs.inner.Fronts.{nones}
use Rattle.assemble.proofs.missing.skip.Given as goal

abbrev pub invariant-loop-i : goal.invariant-loop-i
invariant-loop-i g l = record {
  kept : map g.S.EntrySource.refused l.sources ≡ map g.S.EntrySource.refused l.fn.sources;
  stay : CausesStay (HaveCause g.S.EntrySource.cause) l.fn.sources l.sources;
  size : length l.sources ≡ length l.fn.sources;
  onward : Onward g.S.EntrySource.stands l.fn.sources l.sources (Fronts (nones l.place.repetition l.place.definition l.i));
  backward : Backward g.S.EntrySource.stands l.fn.sources l.sources (Fronts (nones l.place.repetition l.place.definition l.i));
}
