-- Rows of lines that are gathered for a table.
use Rattle.std.specs.Prelude.{◌≡◌, ℕ, Bool, List, [], ◌∷◌, ◌++◌, Option, Result, Ok, Err, true, false, MatchResult, IsUtf8}
use Rattle.std.specs.Str.Lines.{lines}
use Rattle.std.specs.Io.KnownBytes.{Consumes}
use Rattle.bits.specs.declared.refusal.Refusal.{Refusal}
use Rattle.schema.specs.Values.{ValueTrees}
use Rattle.schema.specs.Shape.{Fields}
use Rattle.footer.specs.declared.options.WriteOptions.{WriteOptions}
use Rattle.manifest.specs.Groups.{Root}
use Rattle.rowtext.specs.Reader.{schema_of as fields_of}
use Rattle.gather.specs.declared.gathered.Gathered.{Gathered}
use Rattle.gather.specs.GatheredRows.{holds, schema_of}
use Rattle.table_commits.specs.Gathering.{AreGatheredFor}
use Rattle.commands.specs.RowLines.{IsRowText, AreRowTexts}
use Rattle.places.specs.Blocks.{AreKnown}
use Rattle.commands.specs.FileLines.{AreWholeLines, AreRefusedIn, AreRefusedOf}
use Rattle.commands.specs.declared.gathering.LineGatherer.{LineGatherer}

-- where some rows of these fields are gathered, they are then gathered with the row of a line
abbrev pub AddsLine : Bool → Fields → List ℕ → Gathered → Gathered → Type 0
AddsLine texts fs line old new = (rows : List ValueTrees) → holds old rows → schema_of old ≡ fs
    → (row : ValueTrees) × (IsRowText texts fs line row × holds new (rows ++ row ∷ []))

-- the rows of these lines are gathered for a table with this root, in groups of the size that the options say
pub record HoldsLines (texts : Bool) (root : Root) (options : WriteOptions) (all : List (List ℕ)) (g : LineGatherer) : Type 0 where
  pub rows : List ValueTrees
  pub read : AreRowTexts texts root.schema all rows
  pub held : holds g.gathered rows
  pub table : AreGatheredFor root options g.gathered
  pub fields : fields_of g.reader ≡ root.schema
  pub as_texts : g.texts ≡ texts

-- More lines are read: where the rows of some are gathered, those of both then are; or the lines are refused.
abbrev pub GathersLines : {T : Type 0} → List (List ℕ) → LineGatherer → LineGatherer → Result T Refusal → Type 0
GathersLines more old new result = (texts : Bool) (root : Root) (options : WriteOptions) (all : List (List ℕ)) → HoldsLines texts root options all old
    → MatchResult result (λ _. HoldsLines texts root options (all ++ more) new) (AreRefusedIn texts root.schema (all ++ more))

-- the same of the lines of bytes, which are then a text
abbrev pub GathersBytes : {T : Type 0} → List ℕ → LineGatherer → LineGatherer → Result T Refusal → Type 0
GathersBytes bytes old new result = (texts : Bool) (root : Root) (options : WriteOptions) (all : List (List ℕ)) → HoldsLines texts root options all old
    → MatchResult result (λ _. IsUtf8 bytes × HoldsLines texts root options (all ++ lines bytes) new) (AreRefusedIn texts root.schema (all ++ lines bytes))

-- Of what was left of a file, whole lines were read, which are texts, and their rows are gathered; and then these bytes, which wait.
pub record HasRead (texts : Bool) (root : Root) (options : WriteOptions) (old left : Option (List ℕ)) (waiting : List ℕ) (g : LineGatherer) : Type 0 where
  pub given : List ℕ
  pub gone : Consumes old left (given ++ waiting)
  pub whole : AreWholeLines given
  pub utf8 : IsUtf8 given
  pub held : HoldsLines texts root options (lines given) g

-- what was left of a file is read, and the rows of its lines are gathered
pub record HasReadAll (texts : Bool) (root : Root) (options : WriteOptions) (old : Option (List ℕ)) (g : LineGatherer) : Type 0 where
  pub bytes : List ℕ
  pub known : AreKnown old bytes
  pub utf8 : IsUtf8 bytes
  pub held : HoldsLines texts root options (lines bytes) g

-- of what was left of a file, one block more was read, or all; or it cannot be read, or its lines are refused
abbrev pub GathersBlock : Bool → Root → WriteOptions → Option (List ℕ) → Option (List ℕ) → Type 0 → List ℕ → LineGatherer → Result Bool Refusal → Type 0
GathersBlock texts root options old left IsShut waiting g (Ok true) = HasRead texts root options old left waiting g
GathersBlock texts root options old left IsShut waiting g (Ok false) = HasReadAll texts root options old g
GathersBlock texts root options old left IsShut waiting g (Err e) = AreRefusedOf IsShut (AreKnown old) texts root.schema e
