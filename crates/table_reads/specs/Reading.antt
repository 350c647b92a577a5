-- What reading part files leaves.
use Rattle.std.specs.Prelude.{◌≡◌, ◌≤◌, ◌+◌, ◌↔◌, ℕ, List, Result}
use Rattle.bits.specs.Refusals.{RefusedOnly}
use Rattle.bits.specs.declared.refusal.Refusal.{Refusal}
use Rattle.schema.specs.Shape.{Fields}
use Rattle.schema.specs.Keys.{KeyColumn}
use Rattle.disk.specs.State.{State as DiskState}
use Rattle.vault.specs.Calls.{LeavesAll, CountsOnce}
use Rattle.filter.specs.Test.{Test}
use Rattle.manifest.specs.Groups.{Group as FileGroup}
use Rattle.scan.specs.Cost.{chunks_read}
use Rattle.scan.specs.Faults.{IsPartRefusal}
use Rattle.scan.specs.Selected.{IsRuledOut}

-- a run of calls that only reads part files
pub record OnlyReads {T : Type 0} (old new : DiskState) (result : Result T Refusal) : Type 0 where
  pub which : RefusedOnly (IsPartRefusal old new) result
  pub unchanged : old.honest → LeavesAll old new
  pub counts : CountsOnce result old new
  pub honest : old.honest ↔ new.honest

-- the reads for the rows of one group: at most one for each chunk that is needed, none where it is ruled out
pub record ReadsFor (tests : List (List Test)) (keys : List KeyColumn) (fs : Fields) (places : List ℕ) (g : FileGroup) (old new : DiskState) : Type 0 where
  pub no_more : new.reads ≤ old.reads + chunks_read tests keys fs g places
  pub no_less : old.reads ≤ new.reads
  pub none : IsRuledOut tests keys g → new.reads ≡ old.reads

-- a run of calls that only reads part files, of which none met a failure
pub record IsReading (old new : DiskState) : Type 0 where
  pub unchanged : old.honest → LeavesAll old new
  pub same : new.failures ≡ old.failures
  pub honest : old.honest ↔ new.honest
