-- What a stop leaves of a run.
use Rattle.std.proofs.Common.{◌≡◌, ◌<◌, ◌⊎◌, ℕ, List, [], ◌∷◌, refl, ap, subst, arith, inl, inr, ⊎_elim}
use Rattle.std.proofs.lemmas.Bool.{cases_lt}
use Rattle.disk.specs.State.{State as DiskState}
use Rattle.table.specs.Table.{Table}
use Rattle.table.specs.State.{State}
use Rattle.table.specs.Calls.{Call, Answer}
use Rattle.table.specs.Refusing.{Happens}
use Rattle.table.specs.Stops.{MayHold, Survives, no_calls, first_call}
use Rattle.table.proofs.Beginnings.{runs_are_histories}
use Rattle.table.proofs.CommitsOf.{runs_are_of_commits}
use Rattle.table_state.specs.OnDisk.{HoldsTable}
use Rattle.store.specs.Prefixes.{all_ended, one_goes_on, LeavesThePrefix, StopsLeaveThePrefix, RunsLeaveThePrefix, RunsHappen}

module _ {Image : Type 0} (images : ℕ → Image → Type 0) (holds : Image → Table → Type 0) where
  -- what an image of the first moment has
  abbrev Begins : ℕ → State → Type 0
  Begins start old = (image : Image) → images start image → (table : Table) × holds image table × MayHold old table

  one_more : {start next finish m : ℕ} {old mid new : State} {call : Call} {answer : Answer} {calls : List Call} {answers : List Answer} {image : Image}
      → Happens old call answer mid → Survives images holds start next old mid → LeavesThePrefix images holds next mid calls answers finish new m image → LeavesThePrefix images holds start old (call ∷ calls) (answer ∷ answers) finish new m image
  one_more {call = call} {answer = answer} happens survives l = record {
    ended = call ∷ l.ended;
    later = l.later;
    calls_are = ap (λ (cs : List Call). call ∷ cs) l.calls_are;
    told = answer ∷ l.told;
    untold = l.untold;
    answers_are = ap (λ (rs : List Answer). answer ∷ rs) l.answers_are;
    time = l.time;
    by_then = l.by_then;
    mid = l.mid;
    runs = first_call happens survives l.runs;
    table = l.table;
    held = l.held;
    left = l.left;
  }

  pub stops_leave_the_prefix : StopsLeaveThePrefix images holds
  stops_leave_the_prefix start old calls answers finish new first no_calls m image from to at =
      let now : m ≡ start = omega (arith, from, to) in
      let h = first image (subst (λ (k : ℕ). images k image) now at) in
      record {
        ended = [];
        later = [];
        calls_are = refl;
        told = [];
        untold = [];
        answers_are = refl;
        time = start;
        by_then = from;
        mid = old;
        runs = no_calls;
        table = h.0;
        held = h.1;
        left = all_ended h.2;
      }
  stops_leave_the_prefix start old calls answers finish new first (first_call {next = next} {mid = after} {call = call} {answer = answer} {calls = later} {answers = untold} happens survives run) m image from to at =
      ⊎_elim
      (λ during. in_progress during)
      (λ over. one_more happens survives (stops_leave_the_prefix next after later untold finish new survives.ended run m image over to at))
      (cases_lt m next)
    where
      cut : m < next → (table : Table) × holds image table × (MayHold old table ⊎ ((start < m) × MayHold after table))
          → LeavesThePrefix images holds start old (call ∷ later) (answer ∷ untold) finish new m image
      cut during h = record {
        ended = [];
        later = call ∷ later;
        calls_are = refl;
        told = [];
        untold = answer ∷ untold;
        answers_are = refl;
        time = start;
        by_then = from;
        mid = old;
        runs = no_calls;
        table = h.0;
        held = h.1;
        left = one_goes_on during happens run h.2;
      }

      in_progress : m < next → LeavesThePrefix images holds start old (call ∷ later) (answer ∷ untold) finish new m image
      in_progress during = ⊎_elim
          (λ begun.
          let h = survives.each m image from (omega (arith, during)) at in
          cut during (h.0, h.1, ⊎_elim (λ may. inl may) (λ may. inr (begun, may)) h.2))
          (λ still.
          let now : m ≡ start = omega (arith, from, still) in
          let h = first image (subst (λ (k : ℕ). images k image) now at) in
          cut during (h.0, h.1, inl h.2))
          (cases_lt start m)

-- ---- of a store

pub runs_leave_the_prefix : {D : Type 0} (state : D → DiskState) → RunsLeaveThePrefix state
runs_leave_the_prefix state old new s calls answers stands run m image from to at =
    let first = (state old.vault.disk).moment in
    let left = stops_leave_the_prefix (state new.vault.disk).images HoldsTable first s calls answers (state new.vault.disk).moment run.after
    (λ c may. let h = stands.shows.sound.tables c (run.past.history first c (omega arith) may) in (h.table, h.held, h.allowed))
    run.runs m image from to at in
    (left, runs_are_of_commits s left.ended left.told left.mid (runs_are_histories (state new.vault.disk).images HoldsTable first s left.ended left.told left.time left.mid left.runs))

pub runs_happen : {D : Type 0} (state : D → DiskState) → RunsHappen state
runs_happen state old new s calls answers run =
    runs_are_histories (state new.vault.disk).images HoldsTable (state old.vault.disk).moment s calls answers (state new.vault.disk).moment run.after run.runs
