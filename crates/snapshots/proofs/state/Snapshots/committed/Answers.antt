use Rattle.std.proofs.Common.{◌≡◌, ℕ, ◌++◌, List, refl, sym, ap, ◌∙◌, subst, Global}
use Rattle.std.specs.Prelude.{filter}
use Rattle.std.specs.Rc.{rc_value}
use Rattle.manifest.specs.Groups.{groups_in, handles_view}
use Rattle.snapshots.specs.State.{File}
use Rattle.snapshots.specs.declared.numbered.Numbered.{Numbered}
use Rattle.snapshots.specs.declared.held.Job.{Job}
use Rattle.snapshots.specs.inner.Found.{came}
use Rattle.snapshots.specs.inner.Held.{Work, seen_in, work_in, job_numbers}
use Rattle.snapshots.specs.inner.Spells.{Other, others_in, stays, left_over}
use Rattle.snapshots.specs.inner.Kept.{Keeps, work_without}
use Rattle.std.proofs.Common.{◌<◌, arith}
use Rattle.std.specs.declared.rc.Rc.{Rc}
use Rattle.schema.specs.Cutting.{is_among as is_number_among}
use Rattle.manifest.specs.declared.group.Group.{Group as CodeGroup}
use Rattle.manifest.specs.Groups.{Group}
use Rattle.snapshots.specs.State.{numbers_of}
use Rattle.snapshots.specs.inner.Found.{has_number, came_next}
use Rattle.snapshots.proofs.Commits.{keeps_committed, committed_is, of_some}
use Rattle.snapshots.proofs.States.{parts_same}
use Rattle.snapshots.proofs.state.Snapshots.committed.Goals as goal

pub with_version-requires : goal.with_version-requires
with_version-requires c =
    let groups : handles_view c.as_slice.result.now ≡ (groups_in c.args.version) = ap (λ (gs : List (Rc CodeGroup Global)). handles_view gs) c.as_slice.ensures.value ∙ c.in_ok-groups.ensures.all in
    let numbers : (n : ℕ) → has_number c.in-Some-2.numbered n ≡ is_number_among (numbers_of (groups_in c.args.version)) n = λ n.
    of_some (λ (m : Numbered). (k : ℕ) → has_number m k ≡ is_number_among (numbers_of (handles_view c.as_slice.result.now)) k) c.in_ok-numbered.field-0 c.in-Some-2.numbered c.in-Some-2.is c.in_ok-numbered.ensures.numbers n
    ∙ ap (λ (gs : List Group). is_number_among (numbers_of gs) n) groups in
    let news : (f : File) → came c.in-Some-2.numbered f ≡ came_next (came (rc_value c.args.self.now.numbered)) c.in-Some.now (groups_in c.args.version) f = λ f.
    of_some (λ (m : Numbered). (g : File) → came m g ≡ came_next (came c.deref.result.now) c.in-Some.now (handles_view c.as_slice.result.now) g) c.in_ok-numbered.field-0 c.in-Some-2.numbered c.in-Some-2.is c.in_ok-numbered.ensures.came f
    ∙ ap (λ (m : Numbered). came_next (came m) c.in-Some.now (handles_view c.as_slice.result.now) f) c.deref.ensures
    ∙ ap (λ (gs : List Group). came_next (came (rc_value c.args.self.now.numbered)) c.in-Some.now gs f) groups in
    let above : c.args.self.now.time < c.in-Some.now = omega (arith, c.in-Some.ensures) in
    let jobs : work_in c.in_ok-jobs.jobs.items ≡ (work_without c.args.job (work_in (rc_value c.args.self.now.jobs).items)) = c.in_ok-jobs.ensures.after in
    let others : others_in c.in_ok-others.others ≡ (filter (stays (came c.in-Some-2.numbered) (job_numbers (work_without c.args.job (work_in (rc_value c.args.self.now.jobs).items)))) (others_in c.args.self.now.others) ++ left_over (came (rc_value c.args.self.now.numbered)) (came c.in-Some-2.numbered) c.in-Some.now (groups_in c.args.self.now.current)) = c.in_ok-others.ensures.after
    ∙ ap (λ (ns : List ℕ). (filter (stays (came c.in-Some-2.numbered) ns) (others_in c.args.self.now.others) ++ left_over (came (rc_value c.args.self.now.numbered)) (came c.in-Some-2.numbered) c.in-Some.now (groups_in c.args.self.now.current))) (ap (λ (js : List Job). job_numbers (work_in js)) c.as_slice-2.ensures.value ∙ ap (λ (ws : List Work). job_numbers ws) jobs) in
    subst (λ (js : List Work). Keeps (groups_in c.args.version) c.in-Some-2.numbered c.in-Some.now (seen_in (rc_value c.args.self.now.cursors).items) js (others_in c.in_ok-others.others)) (sym jobs)
    (subst (λ (os : List Other). Keeps (groups_in c.args.version) c.in-Some-2.numbered c.in-Some.now (seen_in (rc_value c.args.self.now.cursors).items) (work_without c.args.job (work_in (rc_value c.args.self.now.jobs).items)) os) (sym others) (keeps_committed c.args.self.now.kept (groups_in c.args.version) c.in-Some-2.numbered c.in-Some.now c.args.job above numbers news))

pub returns-clause-done : goal.returns-clause-done
returns-clause-done c =
    let groups : handles_view c.as_slice.result.now ≡ (groups_in c.args.version) = ap (λ (gs : List (Rc CodeGroup Global)). handles_view gs) c.as_slice.ensures.value ∙ c.in_ok-groups.ensures.all in
    let numbers : (n : ℕ) → has_number c.in-Some-2.numbered n ≡ is_number_among (numbers_of (groups_in c.args.version)) n = λ n.
    of_some (λ (m : Numbered). (k : ℕ) → has_number m k ≡ is_number_among (numbers_of (handles_view c.as_slice.result.now)) k) c.in_ok-numbered.field-0 c.in-Some-2.numbered c.in-Some-2.is c.in_ok-numbered.ensures.numbers n
    ∙ ap (λ (gs : List Group). is_number_among (numbers_of gs) n) groups in
    let news : (f : File) → came c.in-Some-2.numbered f ≡ came_next (came (rc_value c.args.self.now.numbered)) c.in-Some.now (groups_in c.args.version) f = λ f.
    of_some (λ (m : Numbered). (g : File) → came m g ≡ came_next (came c.deref.result.now) c.in-Some.now (handles_view c.as_slice.result.now) g) c.in_ok-numbered.field-0 c.in-Some-2.numbered c.in-Some-2.is c.in_ok-numbered.ensures.came f
    ∙ ap (λ (m : Numbered). came_next (came m) c.in-Some.now (handles_view c.as_slice.result.now) f) c.deref.ensures
    ∙ ap (λ (gs : List Group). came_next (came (rc_value c.args.self.now.numbered)) c.in-Some.now gs f) groups in
    let above : c.args.self.now.time < c.in-Some.now = omega (arith, c.in-Some.ensures) in
    let jobs : work_in c.in_ok-jobs.jobs.items ≡ (work_without c.args.job (work_in (rc_value c.args.self.now.jobs).items)) = c.in_ok-jobs.ensures.after in
    let others : others_in c.in_ok-others.others ≡ (filter (stays (came c.in-Some-2.numbered) (job_numbers (work_without c.args.job (work_in (rc_value c.args.self.now.jobs).items)))) (others_in c.args.self.now.others) ++ left_over (came (rc_value c.args.self.now.numbered)) (came c.in-Some-2.numbered) c.in-Some.now (groups_in c.args.self.now.current)) = c.in_ok-others.ensures.after
    ∙ ap (λ (ns : List ℕ). (filter (stays (came c.in-Some-2.numbered) ns) (others_in c.args.self.now.others) ++ left_over (came (rc_value c.args.self.now.numbered)) (came c.in-Some-2.numbered) c.in-Some.now (groups_in c.args.self.now.current))) (ap (λ (js : List Job). job_numbers (work_in js)) c.as_slice-2.ensures.value ∙ ap (λ (ws : List Work). job_numbers ws) jobs) in
    c.in_ok-next.ensures.state ∙ parts_same refl refl jobs others ∙ committed_is c.args.self.now.kept (groups_in c.args.version) c.in-Some-2.numbered c.in-Some.now c.args.job above numbers news
