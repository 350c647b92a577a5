use Rattle.std.proofs.Common.{◌≡◌, ◌++◌, drop, map}
use Rattle.schema.specs.Borrowed.{entry_ref_view}
use Rattle.pages.specs.Page.{definitions}
use Rattle.pages.proofs.written_entries.definitions_of.Given as goal

-- the levels so far, and those of the entries that are left
abbrev pub invariant-loop-entry : goal.invariant-loop-entry
invariant-loop-entry l = l.levels.items ++ definitions (map entry_ref_view (drop l.entry-index l.entries)) ≡ definitions (map entry_ref_view l.entries)
