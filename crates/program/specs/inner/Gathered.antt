-- Lines that are gathered before they are written.
use Rattle.std.specs.Prelude.{◌≡◌, ℕ, zero, suc, Bool, List, [], ◌++◌, Option, Result, Ok, Err}
use Rattle.std.specs.Io.KnownBytes.{Appends}
use Rattle.bits.specs.declared.refusal.Refusal.{Refusal}
use Rattle.bits.specs.declared.refusal.Refusal.TheVariants.{Memory}
use Rattle.schema.specs.Values.{ValueTrees}
use Rattle.schema.specs.Shape.{Fields}
use Rattle.schema.specs.Fits.{RowsFit}
use Rattle.program.specs.Program.{lines_of}

-- after what a writer held, where that is known, stand the lines of these rows, with texts or without
abbrev pub AppendsLines : Bool → Fields → List ValueTrees → Option (List ℕ) → Option (List ℕ) → Type 0
AppendsLines texts fs rows old new = Appends old new (lines_of texts fs rows)

-- what was written, what is gathered, and the lines of the rows that are left are the lines of all rows
pub record AreGathered (texts : Bool) (fs : Fields) (S : List ValueTrees → Type 0) (Gathers : List ℕ → Type 0) (all : List ValueTrees) (old new : Option (List ℕ)) : Type 0 where
  pub left : List ValueTrees
  pub stands : S left
  pub fit : RowsFit fs left
  pub gathered : List ℕ
  pub gathers : Gathers gathered
  pub printed : List ℕ
  pub written : Appends old new printed
  pub joined : lines_of texts fs all ≡ printed ++ (gathered ++ lines_of texts fs left)

-- rows are gathered, at least one unless none is left (0); it fails only when out of memory
abbrev pub GathersLines : Bool → Fields → (List ValueTrees → Type 0) → (List ℕ → Type 0) → List ValueTrees → Option (List ℕ) → Option (List ℕ) → Result ℕ Refusal → Type 0
GathersLines texts fs S Gathers all old new (Ok zero) = (p : AreGathered texts fs S Gathers all old new) × (p.left ≡ [])
GathersLines texts fs S Gathers all old new (Ok (suc count)) = AreGathered texts fs S Gathers all old new
GathersLines texts fs S Gathers all old new (Err e) = e ≡ Memory

-- a prefix of these lines is written, and the rest is still gathered
pub record WritesPart (old new : Option (List ℕ)) (Gathers : List ℕ → Type 0) (lines : List ℕ) : Type 0 where
  pub part : List ℕ
  pub kept : List ℕ
  pub split : lines ≡ part ++ kept
  pub written : Appends old new part
  pub gathers : Gathers kept
