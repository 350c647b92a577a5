-- What is printed of the groups of a store with what its root knows of their columns.
use Rattle.std.specs.Prelude.{◌≡◌, ℕ, Bool, List, map, Option, Result, OnOk}
use Rattle.std.specs.Io.KnownBytes.{Appends}
use Rattle.serde_json.specs.Data.{Data}
use Rattle.bits.specs.declared.refusal.Refusal.{Refusal}
use Rattle.schema.specs.Stripe.{Leaf, leaves_of}
use Rattle.disk.specs.State.{State as DiskState}
use Rattle.table.specs.Plans.{summary}
use Rattle.table.specs.State.{State}
use Rattle.table.specs.Views.{info_view}
use Rattle.table.specs.declared.answer.GroupInfo.{GroupInfo}
use Rattle.manifest.specs.Groups.{Group, Root, root_of}
use Rattle.manifest.specs.Root.{stored_of}
use Rattle.jsonrows.specs.GroupColumns.{group_and_columns_json}
use Rattle.table_state.specs.declared.standing.Core.{Core}
use Rattle.table_reads.specs.Listing.{told_of, told_by}
use Rattle.table_state.specs.Stands.{Stands}
use Rattle.answers.specs.Lines.{AreShownLines}

-- what a store tells of a group, and the group as its root describes it
abbrev pub Told : Type 0
Told = GroupInfo × Group

-- what is told of a group as JSON, with what the root knows of its columns: those of the first of these leaves
abbrev pub told_json : Bool → List Leaf → Told → Result Data Refusal
told_json texts leaves t = group_and_columns_json texts leaves t.0 t.1.known.leaves

-- the lines of groups, in their order, with what the root knows of their columns
abbrev pub AreColumnLines : Bool → List Leaf → List Told → List ℕ → Type 0
AreColumnLines texts leaves told text = AreShownLines (told_json texts leaves) told text

-- each group that a root describes, in its order, with what is told of it: its number, key, rows and bytes
pub record AreGroupsTold (root : Root) (told : List Told) : Type 0 where
  pub described : map (λ (t : Told). t.1) told ≡ root.groups
  pub told_so : map (λ (t : Told). told_by t.0) told ≡ map told_of root.groups

-- On an honest disk, from each state that the store stands in: where the result is Ok a writer got the lines of the table's groups,
-- each with what the store's root knows of its columns. (The columns are the leaves of the files, which have no key columns.)
abbrev pub ListsColumns : {D T : Type 0} → (D → DiskState) → Bool → Core D → Option (List ℕ) → Option (List ℕ) → Result T Refusal → Type 0
ListsColumns state texts store before after result = (state store.vault.disk).honest → (s : State) → Stands state store s
    → OnOk result ((told : List Told) × (printed : List ℕ) × AreGroupsTold (root_of store.manifest) told
    × (map (λ (t : Told). info_view t.0) told ≡ map summary s.table.groups)
    × AreColumnLines texts (leaves_of (stored_of (root_of store.manifest))) told printed × Appends before after printed)
