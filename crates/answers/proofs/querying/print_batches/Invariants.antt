use Rattle.std.proofs.Common.{◌≡◌, Bool, false}
use Rattle.schema.specs.Shape.{Fields}
use Rattle.table.specs.State.{State}
use Rattle.table_state.specs.Stands.{Stands}
use Rattle.answers.specs.inner.Fetched.{HasFetched, WhereFitting, HoldsOfFirst, HasPrinted}
use Rattle.answers.specs.inner.Gathering.{BeginsLines}
use Rattle.answers.proofs.querying.print_batches.Given as goal

-- the first rows of the batches so far are printed; where no progress is shown, none is written
abbrev pub invariant-batches : goal.invariant-batches
invariant-batches g l = record {
  prints : (texts : Bool) (fs : Fields) → BeginsLines texts fs l.fn.text → (g.D.Disk.state l.fn.store.vault.disk).honest → (s : State) → Stands g.D.Disk.state l.fn.store s
      → HasFetched g.D.Disk.state l.fn.store l.store l.cursor (WhereFitting fs (HoldsOfFirst l.fn.limit l.left (HasPrinted texts fs l.text (g.W.Write.contents l.fn.out) (g.W.Write.contents l.out)))) s;
  honest : (g.D.Disk.state l.fn.store.vault.disk).honest → (g.D.Disk.state l.store.vault.disk).honest;
  quiet : l.fn.progress.is_shown ≡ false → g.E.Write.contents l.err ≡ g.E.Write.contents l.fn.err;
  same : l.progress.is_shown ≡ l.fn.progress.is_shown;
}
