-- The rows that columns have: parquet.apache.org, "Nested Encoding".
use Rattle.std.specs.Prelude.{◌≡◌, List, [], ◌∷◌, map, ◌<◌, length, Bool, true, false, Option, Some, None, Result, Ok, Err}
use Rattle.std.specs.List.{Any}
use Rattle.bits.specs.declared.refusal.Refusal.{Refusal}
use Rattle.bits.specs.declared.refusal.Refusal.TheVariants.{Limit}
use Rattle.schema.specs.declared.row.Row.{Row}
use Rattle.schema.specs.Values.{ValueTrees}
use Rattle.schema.specs.Shape.{Fields}
use Rattle.schema.specs.Fits.{RowsFit}
use Rattle.schema.specs.Stripe.{Entry, Leaf, leaves_of, columns}
use Rattle.schema.specs.Views.{row_view}
use Rattle.assemble.specs.Sinks.{Token, tokens_each, Visits}
use Rattle.assemble.specs.Columns.{Columns, AreAlike, Fronts, Want, AllSuit, Tells}
use Rattle.assemble.specs.Standing.{AllStand, AllSame, Onward, Backward, IsRefusedFor}

-- fitting rows with these columns
pub record AreRowsOf (fs : Fields) (cs : Columns) (rows : List ValueTrees) : Type 0 where
  pub fit : RowsFit fs rows
  pub have : columns fs rows ≡ cs

-- fitting rows, for whose columns the sources stand
pub record StandForRows {A : Type 0} (S : A → List Entry → Type 0) (xs : List A) (fs : Fields) (rows : List ValueTrees) : Type 0 where
  pub fit : RowsFit fs rows
  pub stand : AllStand S xs (columns fs rows)

-- what each entry of a leaf's column should have: a value that fits exactly when its definition level is the leaf's greatest
abbrev pub wants_of : Fields → List Want
wants_of fs = map (λ (l : Leaf). record { full = l.greatest_definition; leaf_type = l.leaf_type }) (leaves_of fs)

-- Levels: no fitting rows have these levels; Value: an entry lacks its value, has one too many, or one that does not fit
abbrev pub HasFault : Fields → Columns → Refusal → Type 0
HasFault fs cs = Tells ((rows : List ValueTrees) → RowsFit fs rows → AreAlike (columns fs rows) cs → ⊥) (AllSuit (wants_of fs) cs → ⊥)

-- the columns begin with those of the row, and fitting rows with the same levels are one row and rows with the levels of the others
pub record IsFirstRow (fs : Fields) (row : ValueTrees) (old new : Columns) : Type 0 where
  pub front : Fronts (columns fs (row ∷ [])) old new
  pub alone :
      (rows : List ValueTrees) → RowsFit fs rows → AreAlike (columns fs rows) old
      → (rest : List ValueTrees) × (RowsFit fs rest × AreAlike (columns fs rest) new)

-- the columns begin with those of a row that fits, and no other row has their levels
abbrev pub IsNextRow : {A : Type 0} → (A → List Entry → Type 0) → Fields → List A → List A → ValueTrees → Type 0
IsNextRow S fs old new row = RowsFit fs (row ∷ []) × (Onward S old new (IsFirstRow fs row) × Backward S old new (Fronts (columns fs (row ∷ []))))

-- the next row is shown, or there is none: the sources stand for the columns of no rows, and nothing is shown
abbrev pub NextRowTo : {A K : Type 0} → (A → List Entry → Type 0) → (A → Option Refusal) → (A → Refusal → Type 0) → (K → List Token → Type 0) → Fields → List A → List A → K → K → Result Bool Refusal → Type 0
NextRowTo S refused cause shows fs old new from to (Ok false) = (map refused new ≡ map refused old) × (AllStand S old (columns fs []) × (AllSame S old new × (to ≡ from)))
NextRowTo S refused cause shows fs old new from to (Ok true) = (map refused new ≡ map refused old) × Visits (shows from) (shows to) tokens_each (IsNextRow S fs old new)
NextRowTo S refused cause shows fs old new from to (Err e) = IsRefusedFor S refused cause old new (HasFault fs) e

-- the next row, or none where the sources stand for the columns of no rows
abbrev pub NextRow : {A : Type 0} → (A → List Entry → Type 0) → (A → Option Refusal) → (A → Refusal → Type 0) → Fields → List A → List A → Result (Option Row) Refusal → Type 0
NextRow S refused cause fs old new (Ok None) = (map refused new ≡ map refused old) × (AllStand S old (columns fs []) × AllSame S old new)
NextRow S refused cause fs old new (Ok (Some row)) = (map refused new ≡ map refused old) × IsNextRow S fs old new (row_view row)
NextRow S refused cause fs old new (Err e) = IsRefusedFor S refused cause old new (HasFault fs) e

-- a column has more entries than it may have
abbrev pub IsTooLong : Columns → Type 0
IsTooLong cs = Any (λ (c : List Entry). 16777216 < length c) cs

-- Limit: a column has more entries than it may have; Levels and Value: as `HasFault` says
abbrev pub IsRefusedAs : Fields → Columns → Refusal → Type 0
IsRefusedAs fs cs Limit = IsTooLong cs
IsRefusedAs fs cs e = HasFault fs cs e
