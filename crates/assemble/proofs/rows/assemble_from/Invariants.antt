use Rattle.std.proofs.Common.{◌≡◌, map}
use Rattle.schema.specs.Fits.{RowsFit}
use Rattle.schema.specs.Views.{rows_view}
use Rattle.assemble.specs.Sources.{CausesStay}
use Rattle.assemble.specs.Standing.{HaveCause, Onward, Backward}
use Rattle.assemble.proofs.RowByRow.{SoFar, Prior}
use Rattle.assemble.proofs.rows.assemble_from.Given as goal

abbrev pub invariant-more : goal.invariant-more
invariant-more g l = record {
  kept : map g.S.EntrySource.refused l.sources ≡ map g.S.EntrySource.refused l.fn.sources;
  stay : CausesStay (HaveCause g.S.EntrySource.cause) l.fn.sources l.sources;
  fit : RowsFit l.schema (rows_view l.rows.items);
  onward : Onward g.S.EntrySource.stands l.fn.sources l.sources (SoFar l.schema);
  backward : Backward g.S.EntrySource.stands l.fn.sources l.sources (Prior l.schema (rows_view l.rows.items));
}
