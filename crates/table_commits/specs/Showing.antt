-- Rows that are shown to a buffer, one after another, in the columns that the table's files have.
use Rattle.std.specs.Prelude.{◌≡◌, ℕ, suc, Bool, true, false, List, [], ◌∷◌, ◌++◌, Option, Some, None, Result, Ok, Err, if◌then◌else◌}
use Rattle.bits.specs.declared.refusal.Refusal.{Refusal}
use Rattle.bits.specs.declared.refusal.Refusal.TheVariants.{Memory}
use Rattle.schema.specs.Cutting.{is_among}
use Rattle.schema.specs.Fits.{fits_each}
use Rattle.schema.specs.Shape.{Fields, no_fields, field}
use Rattle.schema.specs.Values.{ValueTrees}
use Rattle.scan.specs.declared.group_rows.GroupRows.{GroupRows}
use Rattle.scan.specs.Left.{rows_held}
use Rattle.shred.specs.declared.row_buffer.RowBuffer.{RowBuffer}
use Rattle.shred.specs.Buffer.{schema_of, holds}

-- the places of the fields that are not at these, where the first of these fields has the place i
abbrev pub places_besides : List ℕ → ℕ → Fields → List ℕ
places_besides keys i no_fields = []
places_besides keys i (field f fs) = if is_among keys i then places_besides keys (suc i) fs else i ∷ places_besides keys (suc i) fs

-- the first of the rows that stood is added behind those that the buffer holds, where it fits, and the others stand
pub record AddsFirst (T : List ValueTrees → Type 0) (old new : RowBuffer) (left : List ValueTrees) : Type 0 where
  pub first : ValueTrees
  pub rest : List ValueTrees
  pub split : left ≡ first ∷ rest
  pub stands : T rest
  pub held : (taken : List ValueTrees) → holds old taken → fits_each (schema_of old) first ≡ true → holds new (taken ++ first ∷ [])

-- the next of the rows that stood is added, or there is none; out of memory aside, nothing is refused where rows stood
abbrev pub AddsNext : (List ValueTrees → Type 0) → (List ValueTrees → Type 0) → RowBuffer → RowBuffer → Result Bool Refusal → Type 0
AddsNext S T old new (Ok true) = (left : List ValueTrees) → S left → AddsFirst T old new left
AddsNext S T old new (Ok false) = (left : List ValueTrees) → S left → left ≡ []
AddsNext S T old new (Err e) = (left : List ValueTrees) → S left → e ≡ Memory

-- the buffer holds what it held and then the first of these rows, and the others still stand
pub record AreAdded (S : List ValueTrees → Type 0) (buffer : RowBuffer) (held rows : List ValueTrees) : Type 0 where
  pub taken : List ValueTrees
  pub left : List ValueTrees
  pub split : rows ≡ taken ++ left
  pub stands : S left
  pub holds_now : holds buffer (held ++ taken)

-- a group that was read has these rows, which can be shown; it has none where nothing is kept
abbrev pub AreShown : List ValueTrees → Option GroupRows → Type 0
AreShown rows None = rows ≡ []
AreShown rows (Some g) = rows_held g rows
