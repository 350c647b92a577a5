-- Rows that a writer has given away as files, and those that it still has.
use Rattle.std.specs.Prelude.{◌≡◌, ℕ, Bool, true, false, List, [], ◌∷◌, ◌++◌, Option, None}
use Rattle.schema.specs.Values.{ValueTrees}
use Rattle.schema.specs.Fits.{RowsFit}
use Rattle.footer.specs.Writer.{has_rows, schema_of, options_of}
use Rattle.dataset_words.specs.Files.{TakesFiles}
use Rattle.answers.specs.declared.part_writer.PartWriter.{PartWriter}
use Rattle.answers.specs.QueryFile.{AreFilesOfRows}

-- A writer was given these rows: a sink got files of the first of them, and the writer has the others. Whatever rows and files come
-- after these files, all of them mean all of the rows.
pub record HasGiven (from to : Option (List (List ℕ))) (writer : PartWriter) (rows : List ValueTrees) : Type 0 where
  pub files : List (List ℕ)
  pub full : List ValueTrees
  pub waiting : List ValueTrees
  pub joined : rows ≡ full ++ waiting
  pub has : has_rows writer.writer waiting
  pub schema : schema_of writer.writer ≡ writer.schema.now
  pub options : options_of writer.writer ≡ writer.options
  pub taken : TakesFiles from to files
  pub begun : (later : List ValueTrees) (more : List (List ℕ)) → AreFilesOfRows writer.options writer.schema.now later more
      → AreFilesOfRows writer.options writer.schema.now (full ++ later) (files ++ more)
  pub single : writer.most ≡ None → files ≡ []

-- a sink got files, and with this last one they mean these rows; where there is to be one file, it got none
pub record EndsFiles (from to : Option (List (List ℕ))) (writer : PartWriter) (rows : List ValueTrees) (file : List ℕ) : Type 0 where
  pub files : List (List ℕ)
  pub taken : TakesFiles from to files
  pub are : AreFilesOfRows writer.options writer.schema.now rows (files ++ file ∷ [])
  pub single : writer.most ≡ None → files ≡ []

-- a writer has the schema and the options of another one, and makes one file where that does
abbrev pub WritesAlike : PartWriter → PartWriter → Type 0
WritesAlike old new = (new.schema.now ≡ old.schema.now) × (new.options ≡ old.options) × (new.most ≡ old.most)

-- a writer is given these rows, after those that it was given
abbrev pub TakesRows : PartWriter → PartWriter → Option (List (List ℕ)) → Option (List (List ℕ)) → List ValueTrees → Type 0
TakesRows old new was is rs = (from : Option (List (List ℕ))) (had : List ValueTrees) → HasGiven from was old had → HasGiven from is new (had ++ rs)

-- the first of these rows is given to a writer; the others stand
pub record TakesFirst (T : List ValueTrees → Type 0) (old new : PartWriter) (was is : Option (List (List ℕ))) (rows : List ValueTrees) : Type 0 where
  pub first : ValueTrees
  pub rest : List ValueTrees
  pub split : rows ≡ first ∷ rest
  pub stands : T rest
  pub takes : TakesRows old new was is (first ∷ [])

-- a writer is given the first of the rows that stood, where they are rows of its columns, or there is none
abbrev pub TakesNext : (List ValueTrees → Type 0) → (List ValueTrees → Type 0) → PartWriter → PartWriter → Option (List (List ℕ))
    → Option (List (List ℕ)) → Bool → Type 0
TakesNext S T old new was is true = (rows : List ValueTrees) → S rows → RowsFit old.schema.now rows → TakesFirst T old new was is rows
TakesNext S T old new was is false = (rows : List ValueTrees) → S rows → rows ≡ []
