-- The rows of a query as Parquet files.
use Rattle.std.specs.Prelude.{◌≡◌, ℕ, List, [], ◌∷◌, ◌++◌, map, filter, length, Option, None}
use Rattle.schema.specs.Shape.{Fields}
use Rattle.schema.specs.Values.{ValueTrees}
use Rattle.footer.specs.declared.options.WriteOptions.{WriteOptions}
use Rattle.footer.specs.File.{FileMeans}
use Rattle.footer.specs.Own.{IsLaidOut}
use Rattle.footer.specs.Writing.{IsOutOfRange}
use Rattle.dataset_words.specs.Files.{TakesFiles}
use Rattle.table.specs.Table.{Table, rows}
use Rattle.table.specs.Deciding.{Filter, satisfies}
use Rattle.table.specs.Cursors.{Columns, wanted_places, cut}
pub use Rattle.columns.specs.Columns.{wanted_fields, first_of}

-- the rows of a table that satisfy, in table order, cut to the wanted columns
abbrev pub query_rows : Filter → Columns → Table → List ValueTrees
query_rows terms columns t = map (cut (wanted_places columns 0 t.schema)) (filter (satisfies t.schema terms) (rows t.groups))

-- the bytes of a file mean exactly these rows of this schema, laid out as these options say, which are in range
pub record IsFileOfQuery (options : WriteOptions) (fs : Fields) (rs : List ValueTrees) (bytes : List ℕ) : Type 0 where
  pub means : FileMeans bytes fs rs
  pub laid_out : IsLaidOut options fs rs bytes
  pub in_range : IsOutOfRange options → ⊥

-- The bytes of files mean exactly these rows of this schema, one file after another, each laid out as these options say; there is
-- one file at least.
abbrev pub AreFilesOfRows : WriteOptions → Fields → List ValueTrees → List (List ℕ) → Type 0
AreFilesOfRows options fs rs [] = ⊥
AreFilesOfRows options fs rs (file ∷ []) = IsFileOfQuery options fs rs file
AreFilesOfRows options fs rs (file ∷ other ∷ files) =
    (first rest : List ValueTrees) × (rs ≡ first ++ rest) × IsFileOfQuery options fs first file × AreFilesOfRows options fs rest (other ∷ files)

-- a sink got, after the files that it had, files of these rows, one after another: a single one where there is to be one
pub record GotFiles (options : WriteOptions) (fs : Fields) (rs : List ValueTrees) (most : Option ℕ) (was is : Option (List (List ℕ))) : Type 0 where
  pub files : List (List ℕ)
  pub are : AreFilesOfRows options fs rs files
  pub taken : TakesFiles was is files
  pub single : most ≡ None → length files ≡ 1

-- A sink got files that mean, one after another, exactly the rows of a table that satisfy, in table order, or the first so many of
-- them, in the wanted columns, in the order of the schema.
abbrev pub GotQueryFiles : WriteOptions → Filter → Columns → Option ℕ → Option ℕ → Table → Option (List (List ℕ)) → Option (List (List ℕ)) → Type 0
GotQueryFiles options terms columns limit most t was is = GotFiles options (wanted_fields columns t.schema) (first_of limit (query_rows terms columns t)) most was is
