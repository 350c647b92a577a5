-- What an append has staged, and its rows as they are written.
use Rattle.std.specs.Prelude.{ℕ, ◌==◌, if◌then◌else◌, List, [], ◌∷◌, map, Option, Some, None}
use Rattle.schema.specs.Shape.{Fields}
use Rattle.schema.specs.Fronts.{padded}
use Rattle.partition.specs.Splitting.{KeyRows, key_rows_view}
use Rattle.manifest.specs.Groups.{Group, handles_view}
use Rattle.table.specs.Table.{Row}
use Rattle.table_state.specs.declared.jobs.OpenJob.{OpenJob}
use Rattle.table_state.specs.declared.jobs.Work.{Work}
use Rattle.table_state.specs.declared.jobs.Work.TheVariants.{Append, Rewrite}

-- rows that came before a field was added are null in it
abbrev pub completed_rows : Fields → List Row → List Row
completed_rows fs rows = map (padded fs) rows

-- the rows of a key that wait, as they are written: null in the fields that were added after them
abbrev pub completed_buffer : Fields → KeyRows → KeyRows
completed_buffer fs w = record { key = w.key; rows = completed_rows fs w.rows }

-- the rows of each key that wait, as they are written: null in the fields that were added after them
abbrev pub completed_buffers : Fields → List KeyRows → List KeyRows
completed_buffers fs ws = map (completed_buffer fs) ws

-- the rows of an append that wait
abbrev pub waiting_of : Work → List KeyRows
waiting_of (Append a) = map key_rows_view a.waiting.items
waiting_of (Rewrite r) = []

-- the rows of a job that wait, by key; none where there is no job, or it is a rewrite
abbrev pub waiting_at : Option OpenJob → List KeyRows
waiting_at None = []
waiting_at (Some j) = waiting_of j.work

-- the groups that an append wrote
abbrev pub groups_of : Work → List Group
groups_of (Append a) = handles_view a.written.items
groups_of (Rewrite r) = []

-- the groups that a job wrote; none where there is no job, or it is a rewrite
abbrev pub groups_at : Option OpenJob → List Group
groups_at None = []
groups_at (Some j) = groups_of j.work

-- the job of this number has this work
abbrev pub with_work : ℕ → Work → List OpenJob → List OpenJob
with_work n w [] = []
with_work n w (j ∷ js) = if j.number == n then record { number = j.number; work = w } ∷ js else j ∷ with_work n w js
