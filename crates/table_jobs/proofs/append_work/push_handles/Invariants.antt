use Rattle.std.proofs.Common.{◌≡◌, ◌++◌, drop}
use Rattle.manifest.specs.Groups.{handles_view}
use Rattle.table_jobs.proofs.append_work.push_handles.Given as goal

-- what is there and what is left make all
abbrev pub invariant-loop-group : goal.invariant-loop-group
invariant-loop-group l = handles_view l.out.items ++ handles_view (drop l.group-index l.groups) ≡ handles_view l.initial.out.items ++ handles_view l.groups
