use Rattle.std.proofs.Common.{◌≡◌, ◌∙◌, ◌<◌, ◌+◌, length, [], Some, ap, arith}
use Rattle.std.proofs.lemmas.Option.{slice_get_within}
use Rattle.manifest.specs.Groups.{Group, root_of}
use Rattle.upkeep.specs.Intact.{IsHeldIn}
use Rattle.upkeep.proofs.Looking.{looks_here, looks_then, looks_most}
use Rattle.upkeep.proofs.Keeping.{more_held, held_before}
use Rattle.upkeep.proofs.checking.check_groups.Goals as goal

pub loop-i-init : goal.loop-i-init
loop-i-init g c = record { looks = looks_here (g.D.Disk.state c.args.vault.now.disk); held = λ honest empty k h lt at. absurd (omega (arith, lt)) }

pub loop-i-preserved : goal.loop-i-preserved
loop-i-preserved g c =
    let s0 = g.D.Disk.state c.args.vault.now.disk in
    let s1 = g.D.Disk.state c.loop-i.vault.disk in
    let root = root_of c.args.manifest.now in
    let i = c.loop-i.i in
    record {
      looks = looks_then i 1 s0 s1 (g.D.Disk.state c.check_group_at.new.vault.disk) c.loop-i.invariant.looks c.check_group_at.ensures.effect;
      held = λ honest empty.
          let one = c.in_ok-check_group_at.ensures.held (c.loop-i.invariant.looks.honest.0 honest) empty in
          more_held (IsHeldIn s0.seen root) root.groups i (λ k h lt at. c.loop-i.invariant.held honest one.0 k h lt at) (λ h at. held_before s0 s1 root h (c.loop-i.invariant.looks.unchanged honest) (one.1 h at));
    }

pub returns-in_err-check_group_at-clause-effect : goal.returns-in_err-check_group_at-clause-effect
returns-in_err-check_group_at-clause-effect g c =
    let s0 = g.D.Disk.state c.args.vault.now.disk in
    let s1 = g.D.Disk.state c.loop-i.vault.disk in
    let s2 = g.D.Disk.state c.check_group_at.new.vault.disk in
    let i = c.loop-i.i in
    let count : c.len-i-end.result ≡ length (root_of c.args.manifest.now).groups = c.len-i-end.ensures ∙ ap length c.groups.ensures.are in
    looks_most (i + 1) (length (root_of c.args.manifest.now).groups) s0 s2 (omega (arith, count)) (looks_then i 1 s0 s1 s2 c.loop-i.invariant.looks c.check_group_at.ensures.effect)

pub returns-clause-effect : goal.returns-clause-effect
returns-clause-effect g c =
    let count : c.len-i-end.result ≡ length (root_of c.args.manifest.now).groups = c.len-i-end.ensures ∙ ap length c.groups.ensures.are in
    looks_most c.loop-i.i (length (root_of c.args.manifest.now).groups) (g.D.Disk.state c.args.vault.now.disk) (g.D.Disk.state c.loop-i.vault.disk) (omega (arith, count)) c.loop-i.invariant.looks

pub returns-clause-held : goal.returns-clause-held
returns-clause-held g c = λ honest empty k h at.
    let groups = (root_of c.args.manifest.now).groups in
    let count : c.len-i-end.result ≡ length groups = c.len-i-end.ensures ∙ ap length c.groups.ensures.are in
    let within : k < length groups = slice_get_within groups k h at in
    c.loop-i.invariant.held honest empty k h (omega (arith, count, within)) at
