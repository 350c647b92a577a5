use Rattle.std.proofs.Common.{◌≡◌, ◌⊎◌, Result}
use Rattle.std.specs.Prelude.{IfErr}
use Rattle.bits.specs.declared.refusal.Refusal.{Refusal}
use Rattle.bits.specs.declared.refusal.Refusal.TheVariants.{Device, Memory}
use Rattle.vault.specs.Calls.{HasFailed}
use Rattle.vault.proofs.Chained.{refused}
use Rattle.manifest.specs.declared.description.Manifest.{Manifest}
use Rattle.manifest.specs.Groups.{root_of}
use Rattle.recovery.proofs.Opened.{read_moments, read_sound, read_described, sound_only}
use Rattle.recovery.proofs.opening.reopen_to_read.Goals as goal

pub returns-clause-sound : goal.returns-clause-sound
returns-clause-sound g c = λ honest sound. read_sound (g.D.Disk.state c.args.vault.now.disk) (g.D.Disk.state c.read_manifest.new.vault.disk) (c.read_manifest.ensures.unchanged honest) sound

pub returns-clause-moments : goal.returns-clause-moments
returns-clause-moments g c = λ honest sound. read_moments (g.D.Disk.state c.args.vault.now.disk) (g.D.Disk.state c.read_manifest.new.vault.disk) (c.read_manifest.ensures.unchanged honest)

pub returns-clause-describes : goal.returns-clause-describes
returns-clause-describes g c = λ honest sound.
    let s0 = g.D.Disk.state c.args.vault.now.disk in
    let s1 = g.D.Disk.state c.read_manifest.new.vault.disk in
    let at = c.in_ok-manifest.ensures.stands honest in
    read_described c.a_root_means_one_table.ensures at.0 (root_of c.in_ok-manifest.manifest) at.2 s0 s1 (c.read_manifest.ensures.unchanged honest) sound
    (c.in_ok-manifest.ensures.durable honest sound.rooted) at.1 (g.met.D.Disk.lawful c.read_manifest.new.vault.disk) (c.read_manifest.ensures.honest.0 honest)

pub returns-in_err-manifest-clause-sound : goal.returns-in_err-manifest-clause-sound
returns-in_err-manifest-clause-sound g c = λ honest sound. read_sound (g.D.Disk.state c.args.vault.now.disk) (g.D.Disk.state c.read_manifest.new.vault.disk) (c.read_manifest.ensures.unchanged honest) sound

pub returns-in_err-manifest-clause-moments : goal.returns-in_err-manifest-clause-moments
returns-in_err-manifest-clause-moments g c = λ honest sound. read_moments (g.D.Disk.state c.args.vault.now.disk) (g.D.Disk.state c.read_manifest.new.vault.disk) (c.read_manifest.ensures.unchanged honest)

pub returns-in_err-manifest-clause-only : goal.returns-in_err-manifest-clause-only
returns-in_err-manifest-clause-only g c = λ honest sound.
    let s0 = g.D.Disk.state c.args.vault.now.disk in
    refused (λ (r : Result Manifest Refusal). IfErr r (λ e. (e ≡ Device) ⊎ (e ≡ Memory))) c.from_residual.result _ c.from_residual.ensures.1
    (sound_only s0 (g.met.D.Disk.lawful c.args.vault.now.disk) honest sound _ (c.in_err-manifest.ensures.which honest))

pub returns-in_err-manifest-clause-cause : goal.returns-in_err-manifest-clause-cause
returns-in_err-manifest-clause-cause g c =
    let s0 = g.D.Disk.state c.args.vault.now.disk in
    let s1 = g.D.Disk.state c.read_manifest.new.vault.disk in
    refused (λ (r : Result Manifest Refusal). IfErr r (λ e. e ≡ Device → s0.honest → HasFailed s0 s1)) c.from_residual.result _ c.from_residual.ensures.1 c.in_err-manifest.ensures.cause
