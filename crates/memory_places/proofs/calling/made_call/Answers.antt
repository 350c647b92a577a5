use Rattle.memory_places.proofs.Called.{done_there, refused_there, same_there}
use Rattle.memory_places.proofs.calling.made_call.Goals as goal

pub returns-clause-done : goal.returns-clause-done
returns-clause-done c = λ c' h. done_there _ _ _ _ _ _ _ _ _ _ c'.new-paths.ensures (c'.work-status.ensures.done h)

pub returns-clause-refused : goal.returns-clause-refused
returns-clause-refused c = λ c' h. refused_there _ _ _ _ _ _ _ _ _ _ c'.new-paths.ensures (c'.work-status.ensures.refused h)

pub returns-clause-usage : goal.returns-clause-usage
returns-clause-usage c = λ c' h.
    let used = c'.work-status.ensures.usage h in
    (used.0, used.1, same_there _ _ _ used.2 c'.new-paths.ensures)
