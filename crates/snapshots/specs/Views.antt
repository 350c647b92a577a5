-- The state that the program keeps, and the events that it is told.
use Rattle.std.specs.Prelude.{List, ◌||◌, option_map}
use Rattle.std.specs.Rc.{rc_value}
use Rattle.manifest.specs.Groups.{group_view, handles_view, groups_in}
use Rattle.snapshots.specs.declared.state.Snapshots.{Snapshots}
use Rattle.snapshots.specs.declared.snapshots.Prepared.{Prepared}
use Rattle.snapshots.specs.declared.event.Event.{Event as CodeEvent}
use Rattle.snapshots.specs.declared.event.Event.TheVariants as code
use Rattle.snapshots.specs.State.{Version, State, Event, opened, closed, began, staged, ended, committed, gone, file_of, files_of, names}
use Rattle.snapshots.specs.inner.Held.{Seen, Work, seen_in, work_in, cursors_view}
use Rattle.snapshots.specs.inner.Spells.{Other, others_in, is_listed}
use Rattle.snapshots.specs.inner.Kept.{jobs_view}

-- the state with this current version, cursors and jobs; its files are those of the version, and the others that were brought in
abbrev pub state_from : Version → List Seen → List Work → List Other → State
state_from version cs ws os = record { current = version; cursors = cursors_view cs; jobs = jobs_view os ws; files = λ f. names version f || is_listed os f }

-- the state that a `Snapshots` stands for
abbrev pub state_of : Snapshots → State
state_of s = state_from (groups_in s.current) (seen_in (rc_value s.cursors).items) (work_in (rc_value s.jobs).items) (others_in s.others)

-- the state that a prepared change leads to
abbrev pub prepared_of : Prepared → State
prepared_of p = state_of p.next

-- the event that an `Event` of the program stands for
abbrev pub event_view : CodeEvent → Event
event_view (code.Opened n) = opened n
event_view (code.Closed n) = closed n
event_view (code.Began n sources) = began n (option_map (λ ns. ns.items) sources)
event_view (code.Staged job g) = staged job (file_of (group_view (rc_value g)))
event_view (code.Ended n) = ended n
event_view (code.Committed version job) = committed (groups_in version) job
event_view (code.Gone gs) = gone (files_of (handles_view gs.items))
