use Rattle.std.proofs.Common.{◌≡◌, false}
use Rattle.table.specs.State.{State}
use Rattle.table_state.specs.Stands.{Stands}
use Rattle.answers.specs.inner.Fetched.{HasFetched, WhereFitting, HoldsOfFirst}
use Rattle.answers.specs.inner.Parts.{TakesRows, WritesAlike}
use Rattle.answers.proofs.writing_query.write_batches.Given as goal

-- the writer has the first rows of the batches so far; where no progress is shown, none is written
abbrev pub invariant-batches : goal.invariant-batches
invariant-batches g l = record {
  writes : (g.D.Disk.state l.fn.store.vault.disk).honest → (s : State) → Stands g.D.Disk.state l.fn.store s
      → HasFetched g.D.Disk.state l.fn.store l.store l.cursor (WhereFitting l.fn.writer.schema.now (HoldsOfFirst l.fn.limit l.left (TakesRows l.fn.writer l.writer (g.S.FileSink.taken l.fn.sink) (g.S.FileSink.taken l.sink)))) s;
  honest : (g.D.Disk.state l.fn.store.vault.disk).honest → (g.D.Disk.state l.store.vault.disk).honest;
  alike : WritesAlike l.fn.writer l.writer;
  quiet : l.fn.progress.is_shown ≡ false → g.E.Write.contents l.err ≡ g.E.Write.contents l.fn.err;
  same : l.progress.is_shown ≡ l.fn.progress.is_shown;
}
