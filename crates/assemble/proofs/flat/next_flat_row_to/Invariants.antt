use Rattle.std.proofs.Common.{◌≡◌, length}
use Rattle.assemble.specs.Sources.{CausesStay}
use Rattle.assemble.specs.Standing.{HaveCause}
use Rattle.assemble.proofs.FlatShown.{Shown}
use Rattle.assemble.proofs.flat.next_flat_row_to.Given as goal

abbrev pub invariant-loop-i : goal.invariant-loop-i
invariant-loop-i g l = record { size : length l.sources ≡ length l.fn.sources; stay : CausesStay (HaveCause g.S.EntrySource.cause) l.fn.sources l.sources; shown : Shown g.S.EntrySource.stands l.i l.fn.sources l.sources (g.K.RowSink.shows l.fn.sink) (g.K.RowSink.shows l.sink); base : g.K.RowSink.base l.sink ≡ g.K.RowSink.base l.fn.sink }
