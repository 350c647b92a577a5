-- Lines that are read, and what they are refused for.
use Rattle.std.specs.Prelude.{◌≡◌, ◌⊎◌, ℕ, Bool, List, [], ◌∷◌, ◌++◌, IsTrue}
use Rattle.bits.specs.declared.refusal.Refusal.{Refusal}
use Rattle.bits.specs.declared.refusal.Refusal.TheVariants.{Limit, Memory, RowShape, Script}
use Rattle.schema.specs.Values.{ValueTrees}
use Rattle.schema.specs.Shape.{Fields}
use Rattle.schema.specs.Fits.{fits_each}
use Rattle.footer.specs.declared.file_writer.FileWriter.{FileWriter}
use Rattle.footer.specs.declared.options.WriteOptions.{WriteOptions}
use Rattle.footer.specs.File.{FileMeans}
use Rattle.footer.specs.Own.{IsLaidOut}
use Rattle.footer.specs.Writing.{IsOutOfRange, IsTooMuch}
use Rattle.footer.specs.Writer.{has_rows, schema_of, options_of}
use Rattle.program.specs.Program.{IsRowText, AreRowTexts, IsRefusedLine, HasFirstFault}

-- The bytes of a file mean the rows of these lines, in this schema, one for each line, laid out as these options say.
pub record IsFileOfLines (texts : Bool) (options : WriteOptions) (fs : Fields) (all : List (List ℕ)) (bytes : List ℕ) : Type 0 where
  pub rows : List ValueTrees
  pub read : AreRowTexts texts fs all rows
  pub means : FileMeans bytes fs rows
  pub laid_out : IsLaidOut options fs rows bytes
  pub in_range : IsOutOfRange options → ⊥

-- the first of the lines that is no row is refused so, or all of their rows are too much for a file by these options
abbrev pub IsLinesRefusal : Bool → Fields → WriteOptions → List (List ℕ) → Refusal → Type 0
IsLinesRefusal texts fs o all RowShape = HasFirstFault texts fs all RowShape
IsLinesRefusal texts fs o all Script = HasFirstFault texts fs all Script
IsLinesRefusal texts fs o all Limit = (rows : List ValueTrees) → AreRowTexts texts fs all rows → IsOutOfRange o ⊎ IsTooMuch fs o rows
IsLinesRefusal texts fs o all Memory = Unit {0}
IsLinesRefusal texts fs o all e = ⊥

-- these rows are too much for a file, whatever rows come after them
abbrev pub AreTooMuch : Fields → WriteOptions → List ValueTrees → Type 0
AreTooMuch fs o rows = (later : List ValueTrees) → IsTooMuch fs o (rows ++ later)

-- a line is no row, or the rows before it are too much
abbrev pub IsLineRefusal : Bool → Fields → List ℕ → Type 0 → Refusal → Type 0
IsLineRefusal texts fs line TooMuch RowShape = IsRefusedLine texts fs line RowShape
IsLineRefusal texts fs line TooMuch Script = IsRefusedLine texts fs line Script
IsLineRefusal texts fs line TooMuch Limit = TooMuch
IsLineRefusal texts fs line TooMuch Memory = Unit {0}
IsLineRefusal texts fs line TooMuch e = ⊥

-- a writer that was given these rows was given that of a line too
pub record HasLine (texts : Bool) (fs : Fields) (o : WriteOptions) (line : List ℕ) (rows : List ValueTrees) (writer : FileWriter) : Type 0 where
  pub row : ValueTrees
  pub is : IsRowText texts fs line row
  pub fits : IsTrue (fits_each fs row)
  pub has : has_rows writer (rows ++ row ∷ [])
  pub schema : schema_of writer ≡ fs
  pub options : options_of writer ≡ o
