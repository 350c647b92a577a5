-- Looking up what is open, by its number.
use Rattle.std.specs.Prelude.{ℕ, not, ◌==◌, if◌then◌else◌, List, [], ◌∷◌, map, filter, Option, Some, None}
use Rattle.table_state.specs.declared.jobs.OpenJob.{OpenJob}
use Rattle.table_state.specs.declared.jobs.OpenCursor.{OpenCursor}

-- the first open job of this number
abbrev pub job_at : ℕ → List OpenJob → Option OpenJob
job_at n [] = None
job_at n (j ∷ js) = if j.number == n then Some j else job_at n js

-- the first open cursor of this number
abbrev pub cursor_at : ℕ → List OpenCursor → Option OpenCursor
cursor_at n [] = None
cursor_at n (c ∷ cs) = if c.number == n then Some c else cursor_at n cs

-- the jobs but for the one that ends; all jobs, where none ends
abbrev pub jobs_left : Option ℕ → List OpenJob → List OpenJob
jobs_left None jobs = jobs
jobs_left (Some n) jobs = filter (λ (j : OpenJob). not (j.number == n)) jobs

-- the cursors but for the one of this number
abbrev pub cursors_left : ℕ → List OpenCursor → List OpenCursor
cursors_left n cursors = filter (λ (c : OpenCursor). not (c.number == n)) cursors

-- the jobs, with this one in place of those of its number
abbrev pub jobs_with : OpenJob → List OpenJob → List OpenJob
jobs_with x jobs = map (λ (j : OpenJob). if j.number == x.number then x else j) jobs
