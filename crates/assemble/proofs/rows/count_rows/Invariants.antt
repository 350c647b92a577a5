use Rattle.std.proofs.Common.{◌≡◌, List, length, map}
use Rattle.schema.specs.Values.{ValueTrees}
use Rattle.schema.specs.Fits.{RowsFit}
use Rattle.assemble.specs.Sources.{CausesStay}
use Rattle.assemble.specs.Standing.{HaveCause, Onward, Backward}
use Rattle.assemble.proofs.RowByRow.{SoFar, Prior}
use Rattle.assemble.proofs.rows.count_rows.Given as goal

abbrev pub invariant-loop-count : goal.invariant-loop-count
invariant-loop-count g l = record {
  kept : map g.S.EntrySource.refused l.sources ≡ map g.S.EntrySource.refused l.fn.sources;
  stay : CausesStay (HaveCause g.S.EntrySource.cause) l.fn.sources l.sources;
  onward : Onward g.S.EntrySource.stands l.fn.sources l.sources (SoFar l.schema);
  seen : (rows : List ValueTrees) × ((length rows ≡ l.count) × (RowsFit l.schema rows × Backward g.S.EntrySource.stands l.fn.sources l.sources (Prior l.schema rows)));
}
