-- What comes of a change, by what was read for it before the folder was locked.
use Rattle.std.specs.Prelude.{ℕ, List, Option, Result, ⊤}
use Rattle.bits.specs.declared.refusal.Refusal.{Refusal}
use Rattle.disk.specs.State.{State as DiskState}
use Rattle.schema.specs.Values.{ValueTrees}
use Rattle.manifest.specs.Groups.{Root}
use Rattle.gather.specs.GatheredRows.{holds}
use Rattle.table_state.specs.declared.standing.Core.{Core}
use Rattle.table_commits.specs.Gathering.{AreGatheredFor}
use Rattle.dataset_words.specs.declared.call.Call.{Call}
use Rattle.answers.specs.Importing.{files_view}
use Rattle.answers.specs.Making.{lent_text}
use Rattle.commands.specs.Calls.{ChangesStore, ChangesByRows}
use Rattle.commands.specs.declared.watched.Watched.{Watched}
use Rattle.commands.specs.declared.opening.Brought.{Brought}
use Rattle.commands.specs.declared.opening.Brought.TheVariants.{Files, Rows}

-- what is made of a store with the bytes of files, or with rows that were gathered for a table
abbrev pub ChangesWith : {D S : Type 0} → (D → DiskState) → Call → Brought → Option (List ℕ) → Option (List ℕ) → Core (Watched D S) → Core (Watched D S)
    → Result ⊤ Refusal → Type 0
ChangesWith state call (Files files) before after old new result = ChangesStore state call call.task (files_view files.now) before after old new result
ChangesWith state call (Rows rows unless) before after old new result = (root : Root) (given : List ValueTrees) → holds rows.gathered given
    → AreGatheredFor root call.options rows.gathered → ChangesByRows state call (lent_text unless) root given before after old new result
