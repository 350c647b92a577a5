-- The sources of a rewrite, and what is read of them.
use Rattle.std.specs.Prelude.{◌≡◌, ℕ, Bool, true, false, List, [], ◌∷◌, ◌++◌, length, flat_map, Option, Some, None, Result, Ok, Err}
use Rattle.std.specs.List.{slice_get}
use Rattle.std.specs.declared.vec.Vec.{Vec}
use Rattle.std.specs.declared.alloc.Global.{Global}
use Rattle.bits.specs.declared.refusal.Refusal.{Refusal}
use Rattle.schema.specs.declared.row.Row.{Row as CodeRow}
use Rattle.schema.specs.Keys.{AreKeys}
use Rattle.disk.specs.State.{State as DiskState}
use Rattle.scan.specs.Absent.{Lacks}
use Rattle.manifest.specs.Groups.{Group, handles_view, root_of}
use Rattle.planning.specs.declared.change.Sources.{Sources}
use Rattle.table_state.specs.declared.standing.Core.{Core}
use Rattle.table_state.specs.Lookups.{job_at}
use Rattle.table_state.specs.declared.jobs.OpenJob.{OpenJob}
use Rattle.table_state.specs.declared.jobs.Work.{Work}
use Rattle.table_state.specs.declared.jobs.Work.TheVariants.{Append, Rewrite}
use Rattle.table_state.specs.declared.jobs.Rewriting.{Rewriting}

-- whether the work of a job is a rewrite
abbrev pub is_rewrite : Work → Bool
is_rewrite (Append a) = false
is_rewrite (Rewrite r) = true

-- whether there is a job, and it is a rewrite
abbrev pub finds_rewrite : Option OpenJob → Bool
finds_rewrite None = false
finds_rewrite (Some j) = is_rewrite j.work

-- all sources of a rewrite, in the order of its runs
abbrev pub sources_in : List Sources → List Group
sources_in runs = flat_map (λ (r : Sources). handles_view r.groups.items) runs

-- the source at a place, over all runs in their order; None where there are not so many
abbrev pub source_in : List Sources → ℕ → Option Group
source_in runs place = slice_get (sources_in runs) place

-- the source that a rewrite reads next; None where all are read, and for an append
abbrev pub next_in : Work → Option Group
next_in (Append a) = None
next_in (Rewrite r) = source_in r.runs.items (length r.read.items)

-- the source that a job reads next; None where there is no job, or it has none to read
abbrev pub next_at : Option OpenJob → Option Group
next_at None = None
next_at (Some j) = next_in j.work

-- The part file of the source that a job reads next is absent, in a table that can have its keys and the source.
pub record LacksSource {D : Type 0} (state : D → DiskState) (store : Core D) (job : ℕ) : Type 0 where
  pub keyed : AreKeys (root_of store.manifest).keys (root_of store.manifest).schema
  pub source : Group
  pub next : next_at (job_at job store.jobs.items) ≡ Some source
  pub lacks : Lacks (state store.vault.disk) (root_of store.manifest).keys (root_of store.manifest).schema source

-- the same work, but that a rewrite has read these too
abbrev pub HasRead : List (Vec CodeRow Global) → Work → Work → Type 0
HasRead more (Append a) new = new ≡ Append a
HasRead more (Rewrite r) new = (q : Rewriting) × (new ≡ Rewrite q) × (q.runs ≡ r.runs) × (q.read.items ≡ r.read.items ++ more)

-- what is kept: the rows, or nothing where that is refused
abbrev pub kept_rows : {T : Type 0} → Vec CodeRow Global → Result T Refusal → List (Vec CodeRow Global)
kept_rows rows (Ok x) = rows ∷ []
kept_rows rows (Err e) = []
