-- Rows that are taken from a reader one by one, and lines that are gathered before they are written.
use Rattle.std.specs.Prelude.{◌≡◌, ℕ, Bool, List, [], ◌++◌, length, Option, Some, None}
use Rattle.std.specs.Io.KnownBytes.{Appends}
use Rattle.schema.specs.Values.{ValueTrees}
use Rattle.schema.specs.Shape.{Fields, no_fields}
use Rattle.rowtext.specs.declared.row_text.RowText.{RowText}
use Rattle.rowtext.specs.Rows.{BeginsLineAs}
use Rattle.answers.specs.Querying.{row_lines}

-- ---- rows

-- something is so of the first so many of some rows, and a reader would still give the others
pub record HavePassed (Has Stand : List ValueTrees → Type 0) (n : ℕ) (all : List ValueTrees) : Type 0 where
  pub given : List ValueTrees
  pub left : List ValueTrees
  pub has : Has given
  pub stands : Stand left
  pub joined : all ≡ given ++ left
  pub many : length given ≡ n

-- ---- lines

-- the lines of these rows were written or are gathered
pub record AreGathered (texts : Bool) (fs : Fields) (rows : List ValueTrees) (text : RowText) (old new : Option (List ℕ)) : Type 0 where
  pub printed : List ℕ
  pub written : Appends old new printed
  pub gathered : List ℕ
  pub gathers : BeginsLineAs texts text fs gathered
  pub joined : row_lines texts fs rows ≡ printed ++ gathered

-- what makes the lines of rows of these columns has gathered none; without columns nothing is needed to make them
abbrev pub BeginsLines : Bool → Fields → Option RowText → Type 0
BeginsLines texts fs None = fs ≡ no_fields
BeginsLines texts fs (Some text) = BeginsLineAs texts text fs []

-- the lines of these rows, so many, are written, and none is gathered
pub record HasWrittenLines (texts : Bool) (fs : Fields) (rows : List ValueTrees) (text : Option RowText) (old new : Option (List ℕ)) (count : ℕ) : Type 0 where
  pub many : count ≡ length rows
  pub written : Appends old new (row_lines texts fs rows)
  pub again : BeginsLines texts fs text
