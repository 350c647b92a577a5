use Rattle.std.proofs.Common.{List}
use Rattle.schema.specs.Stripe.{Entry}
use Rattle.row_group.specs.Left.{pages_view}
use Rattle.row_group.specs.inner.Pages.{Passes}
use Rattle.row_group.proofs.chunk_reading.skip_entries.Given as goal

-- some entries have passed
abbrev pub invariant-loop : goal.invariant-loop
invariant-loop l = (es : List Entry) × Passes (pages_view l.initial.pages) (pages_view l.pages) es

abbrev pub decreases-loop : goal.decreases-loop
decreases-loop l = l.pages.lacking
