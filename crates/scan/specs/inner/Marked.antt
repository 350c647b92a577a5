-- What was read of a group some of whose rows satisfy, for the clauses of private functions.
use Rattle.std.specs.Prelude.{◌≡◌, ◌≢◌, ℕ, nat_lt, Bool, true, not, List, [], ◌∷◌, length, filter, count_by, Option, Some, None}
use Rattle.std.specs.List.{list_any}
use Rattle.schema.specs.Keys.{KeyColumn, places_of}
use Rattle.schema.specs.Shape.{Fields}
use Rattle.schema.specs.Stripe.{leaves_of}
use Rattle.schema.specs.Values.{ValueTrees}
use Rattle.filter.specs.Test.{Test}
use Rattle.manifest.specs.Groups.{Group}
use Rattle.scan.specs.declared.group_rows.Marked.{Marked}
use Rattle.scan.specs.Left.{selected_by, turned}
use Rattle.scan.specs.Selected.{Decides, AreSelected}
use Rattle.scan.specs.inner.Marks.{MaySelect}
use Rattle.scan.specs.inner.Texts.{texts_view}
use Rattle.scan.specs.inner.Uses.{uses_of}

-- whether one of so many rows with these marks is selected; without marks each is
abbrev pub has_selected : List Bool → ℕ → Bool
has_selected [] count = nat_lt 0 count
has_selected (m ∷ marks) count = list_any (λ b. b) (m ∷ marks)

-- how many of so many rows with these marks are selected; without marks each is
abbrev pub count_selected : List Bool → ℕ → ℕ
count_selected [] count = count
count_selected (m ∷ marks) count = count_by (λ b. b) (m ∷ marks)

-- one of so many rows with these marks is selected; there is a mark for each, or none at all
pub record HaveSelected (marks : List Bool) (count : ℕ) : Type 0 where
  pub many : marks ≢ [] → length marks ≡ count
  pub some : has_selected marks count ≡ true

-- the marks select the rows that satisfy, and the marks of the others those that do not
abbrev pub AreMarksFor : List (List Test) → List ValueTrees → List Bool → Type 0
AreMarksFor tests rows marks = (p : ValueTrees → Bool) → Decides p tests
    → (selected_by marks rows ≡ filter p rows) × (selected_by (turned (length rows) marks) rows ≡ filter (λ row. not (p row)) rows)

-- the marks select the rows that satisfy; where nothing is marked, none does
abbrev pub AreMarked : List (List Test) → List ℕ → List ValueTrees → Option Marked → Type 0
AreMarked tests places rows None = AreSelected tests places rows []
AreMarked tests places rows (Some m) = AreMarksFor tests rows m.marks.items

-- the bytes hold the columns of these rows that are wanted, and there are as many rows as the group says
pub record MayShow (tests : List (List Test)) (keys : List KeyColumn) (fs : Fields) (g : Group) (places : List ℕ) (m : Marked) (rows : List ValueTrees) : Type 0 where
  pub count : length rows ≡ g.known.rows
  pub select : MaySelect keys fs g (uses_of tests (places_of keys) g.width places 0 (leaves_of fs)) (texts_view m.first.items) (texts_view m.later.items) rows

-- the bytes that were read hold the columns of these rows that are wanted
abbrev pub MayRead : List (List Test) → List KeyColumn → Fields → Group → List ℕ → List ValueTrees → Option Marked → Type 0
MayRead tests keys fs g places rows None = Unit {0}
MayRead tests keys fs g places rows (Some m) = MayShow tests keys fs g places m rows
