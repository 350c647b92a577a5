use Rattle.std.proofs.Common.{◌≡◌, ℕ, ◌∷◌, List, refl, sym, ◌∙◌, subst, option_map, map, Vec, Global}
use Rattle.std.specs.Rc.{rc_value}
use Rattle.manifest.specs.Groups.{groups_in}
use Rattle.snapshots.specs.inner.Held.{Work, seen_in, work_in}
use Rattle.snapshots.specs.inner.Spells.{Other, others_in, unwritten_by}
use Rattle.snapshots.specs.inner.Kept.{Keeps, version_begun, sources_begun}
use Rattle.snapshots.proofs.Times.{keeps_began}
use Rattle.snapshots.proofs.States.{began_is, parts_same}
use Rattle.snapshots.proofs.state.Snapshots.began.Goals as goal

pub with_work-requires : goal.with_work-requires
with_work-requires c =
    let jobs : work_in c.in_ok-jobs.jobs.items ≡ (record { number = c.args.number; version = version_begun (groups_in c.args.self.now.current) (option_map (λ (ns : Vec ℕ Global). ns.items) c.args.sources); at = option_map (λ (_ : List ℕ). c.args.self.now.time) (option_map (λ (ns : Vec ℕ Global). ns.items) c.args.sources); sources = sources_begun (option_map (λ (ns : Vec ℕ Global). ns.items) c.args.sources) } ∷ (work_in (rc_value c.args.self.now.jobs).items)) = c.in_ok-jobs.ensures.first in
    let others : others_in c.in_ok-others.others ≡ map (unwritten_by c.args.number) (others_in c.args.self.now.others) = c.in_ok-others.ensures.all in
    subst (λ (js : List Work). Keeps (groups_in c.args.self.now.current) (rc_value c.args.self.now.numbered) c.args.self.now.time (seen_in (rc_value c.args.self.now.cursors).items) js (others_in c.in_ok-others.others)) (sym jobs)
    (subst (λ (os : List Other). Keeps (groups_in c.args.self.now.current) (rc_value c.args.self.now.numbered) c.args.self.now.time (seen_in (rc_value c.args.self.now.cursors).items) (record { number = c.args.number; version = version_begun (groups_in c.args.self.now.current) (option_map (λ (ns : Vec ℕ Global). ns.items) c.args.sources); at = option_map (λ (_ : List ℕ). c.args.self.now.time) (option_map (λ (ns : Vec ℕ Global). ns.items) c.args.sources); sources = sources_begun (option_map (λ (ns : Vec ℕ Global). ns.items) c.args.sources) } ∷ (work_in (rc_value c.args.self.now.jobs).items)) os) (sym others) (keeps_began c.args.self.now.kept c.args.number (option_map (λ (ns : Vec ℕ Global). ns.items) c.args.sources)))

pub returns-clause-done : goal.returns-clause-done
returns-clause-done c =
    let jobs : work_in c.in_ok-jobs.jobs.items ≡ (record { number = c.args.number; version = version_begun (groups_in c.args.self.now.current) (option_map (λ (ns : Vec ℕ Global). ns.items) c.args.sources); at = option_map (λ (_ : List ℕ). c.args.self.now.time) (option_map (λ (ns : Vec ℕ Global). ns.items) c.args.sources); sources = sources_begun (option_map (λ (ns : Vec ℕ Global). ns.items) c.args.sources) } ∷ (work_in (rc_value c.args.self.now.jobs).items)) = c.in_ok-jobs.ensures.first in
    let others : others_in c.in_ok-others.others ≡ map (unwritten_by c.args.number) (others_in c.args.self.now.others) = c.in_ok-others.ensures.all in
    c.in_ok-next.ensures.state ∙ parts_same refl refl jobs others
    ∙ began_is (groups_in c.args.self.now.current) (seen_in (rc_value c.args.self.now.cursors).items) (work_in (rc_value c.args.self.now.jobs).items) (others_in c.args.self.now.others) c.args.number (option_map (λ (_ : List ℕ). c.args.self.now.time) (option_map (λ (ns : Vec ℕ Global). ns.items) c.args.sources)) (option_map (λ (ns : Vec ℕ Global). ns.items) c.args.sources)
    (sym c.has_job.ensures ∙ c.if-has_job.false)
