use Rattle.std.proofs.Common.{sym, ◌∙◌}
use Rattle.manifest.specs.Groups.{root_of}
use Rattle.recovery.proofs.Sweeping.{next_step, steps_on}
use Rattle.recovery.proofs.Walking.{cleaned}
use Rattle.recovery.proofs.cleaning.remove_litter.Goals as goal

pub returns-then-parts-clause-effect : goal.returns-then-parts-clause-effect
returns-then-parts-clause-effect g c =
    let root = root_of c.args.manifest.now in
    let s1 = g.D.Disk.state c.sweep_parts-parts.new.vault.disk in
    let s2 = g.D.Disk.state c.forget_next.new.self.disk in
    steps_on root (g.D.Disk.state c.args.vault.now.disk) s1 s2 c.sweep_parts-parts.ensures.effect
    (next_step root s1 s2 c.forget_next.result c.forget_next.ensures.effect c.forget_next.ensures.counts.later c.forget_next.ensures.reads c.forget_next.ensures.honest)

pub returns-else-parts-clause-effect : goal.returns-else-parts-clause-effect
returns-else-parts-clause-effect g c =
    let root = root_of c.args.manifest.now in
    let s1 = g.D.Disk.state c.sweep_parts-parts.new.vault.disk in
    let s2 = g.D.Disk.state c.forget_next.new.self.disk in
    steps_on root (g.D.Disk.state c.args.vault.now.disk) s1 s2 c.sweep_parts-parts.ensures.effect
    (next_step root s1 s2 c.forget_next.result c.forget_next.ensures.effect c.forget_next.ensures.counts.later c.forget_next.ensures.reads c.forget_next.ensures.honest)

pub returns-then-parts-clause-clean : goal.returns-then-parts-clause-clean
returns-then-parts-clause-clean g c = λ honest clean.
    let root = root_of c.args.manifest.now in
    let s0 = g.D.Disk.state c.args.vault.now.disk in
    let s1 = g.D.Disk.state c.sweep_parts-parts.new.vault.disk in
    let s2 = g.D.Disk.state c.forget_next.new.self.disk in
    cleaned root s0 s1 s2 c.forget_next.result (c.sweep_parts-parts.ensures.swept honest c.if-parts.true) (c.forget_next.ensures.effect (c.sweep_parts-parts.ensures.effect.honest.0 honest)) (sym c.is_ok-next.ensures.value ∙ clean)
