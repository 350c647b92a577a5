-- The rows of a group that was read and accepted, and those that a reader of them still has to give.
use Rattle.std.specs.Prelude.{◌≡◌, ◌≢◌, ℕ, zero, suc, Bool, true, false, not, List, [], ◌∷◌, map, filter, length, get_or, replicate, Option, Some, None}
use Rattle.std.specs.List.{AllByRecursion, slice_get}
use Rattle.schema.specs.Values.{ValueTrees, no_values, value as item}
use Rattle.schema.specs.Fits.{RowsFit}
use Rattle.schema.specs.Law.{IsSchema}
use Rattle.schema.specs.Stripe.{leaves_of, columns}
use Rattle.schema.specs.Views.{row_view}
use Rattle.metadata.specs.Views.{chunk_meta_view}
use Rattle.assemble.specs.Columns.{Columns}
use Rattle.assemble.specs.Flat.{is_flat}
use Rattle.assemble.specs.RowsOf.{StandForRows}
use Rattle.row_group.specs.Left.{chunk_stands}
use Rattle.filter.specs.Test.{Test}
use Rattle.scan.specs.declared.group_rows.GroupRows.{GroupRows}
use Rattle.scan.specs.declared.held.Held.{Held}
use Rattle.scan.specs.declared.parts.Part.{Part}
use Rattle.scan.specs.declared.parts.Part.TheVariants.{Given, Read}
use Rattle.scan.specs.declared.parts.Run.{Run}
use Rattle.scan.specs.declared.part_reader.PartReader.{PartReader}
use Rattle.scan.specs.declared.part_reader.PartReader.TheVariants as reader_of
use Rattle.scan.specs.declared.run_reader.RunReader.{RunReader}
use Rattle.scan.specs.declared.rows_left.Rows.{Rows}
use Rattle.scan.specs.Selected.{AreSelected, Decides, cut_to}
use Rattle.scan.specs.inner.Texts.{AreHeld, texts_view}
use Rattle.scan.specs.inner.Uses.{picked}

-- ---- rows in pieces: of each row a piece for each part of its columns

-- some values, and then others
abbrev pub followed_by : ValueTrees → ValueTrees → ValueTrees
followed_by no_values ws = ws
followed_by (item v vs) ws = item v (followed_by vs ws)

-- the piece of a row for the part with this index
abbrev pub piece_at : ℕ → List ValueTrees → ValueTrees
piece_at k pieces = get_or pieces k no_values

-- the first n pieces of a row, one after another
abbrev pub joined : ℕ → List ValueTrees → ValueTrees
joined zero pieces = no_values
joined (suc n) [] = no_values
joined (suc n) (p ∷ pieces) = followed_by p (joined n pieces)

-- the things whose mark is set, in their order; a thing that has no mark is among them
abbrev pub selected_by : {A : Type 0} → List Bool → List A → List A
selected_by [] xs = xs
selected_by (m ∷ marks) [] = []
selected_by (true ∷ marks) (x ∷ xs) = x ∷ selected_by marks xs
selected_by (false ∷ marks) (x ∷ xs) = selected_by marks xs

-- the marks of the others of this many things: set where these are not, and nowhere where there are no marks
abbrev pub turned : ℕ → List Bool → List Bool
turned count [] = replicate count false
turned count (m ∷ marks) = map not (m ∷ marks)

-- ---- what a reader still has to give

-- the readers of a run of columns would still give these pieces
pub record RunStands (r : RunReader) (pieces : List ValueTrees) : Type 0 where
  pub schema : IsSchema r.schema.now
  pub flat : r.is_flat ≡ is_flat r.schema.now
  pub columns : StandForRows chunk_stands r.readers.items r.schema.now pieces

-- a part would still give these pieces
abbrev pub part_stands : PartReader → List ValueTrees → Type 0
part_stands (reader_of.Given row) pieces = AllByRecursion (λ piece. piece ≡ row_view row.now) pieces
part_stands (reader_of.Read run) pieces = RunStands run pieces

-- the parts would still give these rows, each its own piece of each of them
abbrev pub PartsStand : List PartReader → List (List ValueTrees) → Type 0
PartsStand parts rows = (k : ℕ) (p : PartReader) → slice_get parts k ≡ Some p → part_stands p (map (piece_at k) rows)

-- as many rows are left as are counted, and these of them are selected
pub record RowsStand (r : Rows) (rows : List ValueTrees) : Type 0 where
  pub whole : r.is_broken ≡ false
  pub pieces : List (List ValueTrees)
  pub count : length pieces ≡ r.left
  pub parts : PartsStand r.parts.items pieces
  pub selected : rows ≡ map (joined (length r.parts.items)) (selected_by r.marks.now pieces)

-- a reader of rows would still give these rows
abbrev pub rows_stand : Rows → List ValueTrees → Type 0
rows_stand = RowsStand

-- ---- what was read and accepted

-- the chunks of a run of columns hold these pieces
pub record RunHolds (h : Held) (run : Run) (pieces : List ValueTrees) : Type 0 where
  pub schema : IsSchema run.schema
  pub fit : RowsFit run.schema pieces
  pub cols : Columns
  pub held : AreHeld false (map chunk_meta_view h.chunks.items) (leaves_of h.schema) run.uses.items (texts_view h.first.items) (texts_view h.later.items) cols
  pub same : picked false run.uses.items cols ≡ columns run.schema pieces

-- a part has these pieces
abbrev pub part_holds : Held → Part → List ValueTrees → Type 0
part_holds h (Given row) pieces = AllByRecursion (λ piece. piece ≡ row_view row) pieces
part_holds h (Read run) pieces = RunHolds h run pieces

-- the parts have these rows, each its own piece of each of them
abbrev pub PartsHold : Held → List Part → List (List ValueTrees) → Type 0
PartsHold h parts rows = (k : ℕ) (p : Part) → slice_get parts k ≡ Some p → part_holds h p (map (piece_at k) rows)

-- as many rows were read as are counted, with a mark for each or none at all, and these of them are selected
pub record RowsHeld (g : GroupRows) (rows : List ValueTrees) : Type 0 where
  pub pieces : List (List ValueTrees)
  pub count : length pieces ≡ g.count
  pub many : g.marks.items ≢ [] → length g.marks.items ≡ g.count
  pub parts : PartsHold g.held g.parts.items pieces
  pub selected : rows ≡ map (joined (length g.parts.items)) (selected_by g.marks.items pieces)

-- the rows that were read and accepted
abbrev pub rows_held : GroupRows → List ValueTrees → Type 0
rows_held = RowsHeld

-- as many rows were read as are counted, with a mark for each or none at all, and these of them are not selected
pub record OthersHeld (g : GroupRows) (rows : List ValueTrees) : Type 0 where
  pub pieces : List (List ValueTrees)
  pub count : length pieces ≡ g.count
  pub many : g.marks.items ≢ [] → length g.marks.items ≡ g.count
  pub parts : PartsHold g.held g.parts.items pieces
  pub others : rows ≡ map (joined (length g.parts.items)) (selected_by (turned g.count g.marks.items) pieces)

-- the rows of the group that were read and accepted, and are not selected
abbrev pub others_held : GroupRows → List ValueTrees → Type 0
others_held = OthersHeld

-- the rows that were read are those that satisfy, cut, and there is one; or none satisfies
abbrev pub AreReadFor : List (List Test) → List ℕ → List ValueTrees → Option GroupRows → Type 0
AreReadFor tests places rows None = AreSelected tests places rows []
AreReadFor tests places rows (Some g) = (out : List ValueTrees) × AreSelected tests places rows out × rows_held g out × (out ≢ [])

-- the rows that were read besides those that satisfy are those that do not, cut; where none satisfies, none are kept
abbrev pub AreOthersFor : List (List Test) → List ℕ → List ValueTrees → Option GroupRows → Type 0
AreOthersFor tests places rows None = Unit {0}
AreOthersFor tests places rows (Some g) = (p : ValueTrees → Bool) → Decides p tests → others_held g (map (cut_to places) (filter (λ row. not (p row)) rows))

-- some rows were read and accepted, whatever the disk did; or there are none
abbrev pub AreAccepted : Option GroupRows → Type 0
AreAccepted None = Unit {0}
AreAccepted (Some g) = (rows : List ValueTrees) × rows_held g rows × (rows ≢ [])

-- what was read and accepted is one list of rows
abbrev pub HeldRowsAreOne : Type 0
HeldRowsAreOne = (g : GroupRows) (rows other : List ValueTrees) → rows_held g rows → rows_held g other → rows ≡ other
