use Rattle.schema.specs.Law.{IsEntryOf}
use Rattle.schema.specs.Views.{leaf_view}
use Rattle.pages.proofs.WrittenEntries.{entry_here}
use Rattle.pages.proofs.written_entries.check_entries.Goals as goal

pub returns-then-not-is_entry_of-clause-only : goal.returns-then-not-is_entry_of-clause-only
returns-then-not-is_entry_of-clause-only c =
    let P = IsEntryOf (leaf_view c.args.leaf.now) in
    λ all. c.is_entry_of.ensures.only c.if-not-is_entry_of.true (entry_here P c.args.entries.now c.loop-entry.entry-index c.entry-item.result c.loop-entry-test.true c.entry-item.is all)
