use Rattle.std.proofs.Common.{drop, map}
use Rattle.std.specs.List.{AllByRecursion}
use Rattle.schema.specs.Borrowed.{entry_ref_view}
use Rattle.schema.specs.Law.{IsEntryOf}
use Rattle.schema.specs.Views.{leaf_view}
use Rattle.pages.proofs.written_entries.are_texts.Given as goal

-- where those that are left are the leaf's, all are
abbrev pub invariant-loop-entry : goal.invariant-loop-entry
invariant-loop-entry l = AllByRecursion (IsEntryOf (leaf_view l.leaf)) (map entry_ref_view (drop l.entry-index l.entries)) → AllByRecursion (IsEntryOf (leaf_view l.leaf)) (map entry_ref_view l.entries)
