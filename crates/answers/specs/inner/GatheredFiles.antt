-- Files whose rows are gathered, one file after another.
use Rattle.std.specs.Prelude.{ℕ, List, ◌++◌, Result, Ok, Err}
use Rattle.bits.specs.declared.refusal.Refusal.{Refusal}
use Rattle.schema.specs.Shape.{Fields}
use Rattle.schema.specs.Keys.{KeyColumn}
use Rattle.schema.specs.Values.{ValueTrees}
use Rattle.partition.specs.Splitting.{HaveKeys}
use Rattle.footer.specs.File.{FileMeans}
use Rattle.gather.specs.declared.gathered.Gathered.{Gathered}
use Rattle.gather.specs.GatheredRows.{holds}
use Rattle.answers.specs.Importing.{MeanRows, joined, IsRefusedFile, StopsAtFile}

-- the rows of these files are gathered, and each has a key
pub record HoldsFiles (fs : Fields) (keys : List KeyColumn) (files : List (List ℕ)) (g : Gathered) : Type 0 where
  pub rows : List (List ValueTrees)
  pub mean : MeanRows fs files rows
  pub held : holds g (joined rows)
  pub keyed : HaveKeys keys (joined rows)

-- the rows of all files are gathered; or the first that cannot be taken is refused
abbrev pub GathersFiles : {T : Type 0} → Fields → List KeyColumn → List (List ℕ) → Gathered → Result T Refusal → Type 0
GathersFiles fs keys files g (Ok x) = HoldsFiles fs keys files g
GathersFiles fs keys files g (Err e) = StopsAtFile fs keys files e

-- the rows of a file are gathered too, behind those from before, and each has a key
abbrev pub IsGathered : Fields → List KeyColumn → List ValueTrees → List ℕ → Gathered → Type 0
IsGathered fs keys before file g = (rows : List ValueTrees) × FileMeans file fs rows × holds g (before ++ rows) × HaveKeys keys (before ++ rows)

-- a file is gathered too; or it is refused
abbrev pub TakesFile : {T : Type 0} → Fields → List KeyColumn → List ValueTrees → List ℕ → Gathered → Result T Refusal → Type 0
TakesFile fs keys before file g (Ok x) = IsGathered fs keys before file g
TakesFile fs keys before file g (Err e) = IsRefusedFile fs keys file e
