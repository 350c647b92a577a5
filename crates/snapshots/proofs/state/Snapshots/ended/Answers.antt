use Rattle.std.proofs.Common.{◌≡◌, not, List, refl, sym, ap, ◌∙◌, subst}
use Rattle.std.specs.Prelude.{filter}
use Rattle.std.specs.Rc.{rc_value}
use Rattle.manifest.specs.Groups.{groups_in}
use Rattle.snapshots.specs.inner.Held.{Work, seen_in, work_in}
use Rattle.snapshots.specs.inner.Spells.{others_in}
use Rattle.snapshots.specs.inner.Kept.{Keeps}
use Rattle.std.proofs.Common.{Vec, Global, ◌==◌}
use Rattle.snapshots.specs.declared.held.Job.{Job}
use Rattle.snapshots.proofs.Times.{keeps_ended}
use Rattle.snapshots.proofs.States.{ended_is, parts_same}
use Rattle.snapshots.proofs.state.Snapshots.ended.Goals as goal

pub with_jobs-requires : goal.with_jobs-requires
with_jobs-requires c =
    let others : work_in c.in_ok-jobs.jobs.items ≡ filter (λ (x : Work). not (x.number == c.args.number)) (work_in (rc_value c.args.self.now.jobs).items) = c.in_ok-jobs.ensures.others
    ∙ ap (λ (js : List Job). filter (λ (x : Work). not (x.number == c.args.number)) (work_in js)) (c.as_slice.ensures.value ∙ ap (λ (v : Vec Job Global). v.items) c.deref.ensures) in
    subst (λ (js : List Work). Keeps (groups_in c.args.self.now.current) (rc_value c.args.self.now.numbered) c.args.self.now.time (seen_in (rc_value c.args.self.now.cursors).items) js (others_in c.args.self.now.others)) (sym others) (keeps_ended c.args.self.now.kept c.args.number)

pub returns-clause-done : goal.returns-clause-done
returns-clause-done c =
    let others : work_in c.in_ok-jobs.jobs.items ≡ filter (λ (x : Work). not (x.number == c.args.number)) (work_in (rc_value c.args.self.now.jobs).items) = c.in_ok-jobs.ensures.others
    ∙ ap (λ (js : List Job). filter (λ (x : Work). not (x.number == c.args.number)) (work_in js)) (c.as_slice.ensures.value ∙ ap (λ (v : Vec Job Global). v.items) c.deref.ensures) in
    c.in_ok-next.ensures.state ∙ parts_same refl refl others refl ∙ ended_is (groups_in c.args.self.now.current) (seen_in (rc_value c.args.self.now.cursors).items) (work_in (rc_value c.args.self.now.jobs).items) (others_in c.args.self.now.others) c.args.number
