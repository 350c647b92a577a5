-- Rows that are taken from a file and given to a writer, and the first rows of a file.
use Rattle.std.specs.Prelude.{◌≡◌, ℕ, List, ◌++◌, map, take, length, Option, Some, None}
use Rattle.schema.specs.Values.{ValueTrees}
use Rattle.schema.specs.Shape.{Fields}
use Rattle.schema.specs.Fits.{RowsFit}
use Rattle.footer.specs.declared.options.WriteOptions.{WriteOptions}
use Rattle.footer.specs.File.{FileMeans}
use Rattle.footer.specs.Own.{IsLaidOut}
use Rattle.footer.specs.Writing.{IsOutOfRange}
use Rattle.columns.specs.Columns.{Columns, cut, first_of}
use Rattle.program.specs.Program.{AreColumns, asked_fields, asked_rows}

-- the bytes of a file mean these rows of this schema, laid out as these options say, which are in range
pub record IsFileOfRows (options : WriteOptions) (fs : Fields) (rows : List ValueTrees) (bytes : List ℕ) : Type 0 where
  pub means : FileMeans bytes fs rows
  pub laid_out : IsLaidOut options fs rows bytes
  pub in_range : IsOutOfRange options → ⊥

-- a row, cut to these places, where they are given
abbrev pub cut_at : Option (List ℕ) → ValueTrees → ValueTrees
cut_at None row = row
cut_at (Some places) row = cut places row

-- the bytes of a file mean these rows of this schema, or the first so many of them, cut to these places, where they are given
abbrev pub IsFirstOfRows : WriteOptions → Fields → Option (List ℕ) → Option ℕ → List ValueTrees → List ℕ → Type 0
IsFirstOfRows options fs places limit rows bytes = IsFileOfRows options fs (first_of limit (map (cut_at places) rows)) bytes

-- the bytes of a file mean rows of a schema, or the first so many of them, in the columns that are asked for, which are there
pub record IsAskedFile (options : WriteOptions) (columns : Columns) (limit : Option ℕ) (fs : Fields) (rows : List ValueTrees) (bytes : List ℕ) : Type 0 where
  pub there : AreColumns columns fs
  pub is : IsFileOfRows options (asked_fields columns fs) (first_of limit (asked_rows columns fs rows)) bytes

-- a writer has the first of some rows, so many, each cut so, and a reader would still give the others
pub record ArePassed (Has Stand : List ValueTrees → Type 0) (cut_so : ValueTrees → ValueTrees) (n : ℕ) (all : List ValueTrees) : Type 0 where
  pub given : List ValueTrees
  pub left : List ValueTrees
  pub has : Has (map cut_so given)
  pub stands : Stand left
  pub joined : all ≡ given ++ left
  pub many : length given ≡ n

-- a reader would still give rows, of which these are the first so many
pub record FirstStand (Stand : List ValueTrees → Type 0) (fs : Fields) (n : ℕ) (rows : List ValueTrees) : Type 0 where
  pub all : List ValueTrees
  pub stands : Stand all
  pub fit : RowsFit fs all
  pub are : rows ≡ take n all
