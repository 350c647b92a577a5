use Rattle.std.proofs.Common.{◌≡◌, ◌+◌, Bool, true, false, Some, None, ℕ, List, refl, sym, ◌∙◌, ap, subst, Ok, Err}
use Rattle.std.specs.Prelude.{string_bytes}
use Rattle.bits.specs.declared.refusal.Refusal.TheVariants.{Memory, Device, NoJob}
use Rattle.bits.specs.declared.refusal.Refusal.{Refusal}
use Rattle.bits.specs.Refusals.{HasCause, RefusedOnly}
use Rattle.vault.specs.Calls.{Puts}
use Rattle.vault.specs.Ways.{CanPut}
use Rattle.vault.proofs.Chained.{refused}
use Rattle.manifest.specs.declared.group.Group.{Group as CodeGroup}
use Rattle.manifest.specs.Groups.{group_view}
use Rattle.std.specs.Prelude.{Option}
use Rattle.snapshots.specs.State.{State as Versions, job_is_open, unless}
use Rattle.snapshots.specs.Views.{state_of}
use Rattle.table_commits.specs.Writing.{Writes, IsPutRefusal}
use Rattle.table_commits.proofs.PartFilesWritten.{nothing_written, can_put, put_refused, put_done}
use Rattle.table_commits.proofs.part.put_part.Goals as goal

no_device : (b : Bool) (e : Refusal) → b ≡ true → HasCause (λ f. unless b NoJob ≡ Some f) e → e ≡ Device → ⊥
no_device b e there cause is =
    let h : None ≡ Some Device = subst (λ (x : Refusal). HasCause (λ f. None ≡ Some f) x) is (subst (λ (a : Bool). HasCause (λ f. unless a NoJob ≡ Some f) e) there cause) in
    cc

-- why the step was refused
job_gone : (b : Bool) (f : Refusal) → unless b NoJob ≡ Some f → (f ≡ NoJob) × (b ≡ false)
job_gone true f e = absurd (cc)
job_gone false f e = let is : NoJob ≡ f = cc in (sym is, refl)

pub returns-in_err-staged-clause-writes : goal.returns-in_err-staged-clause-writes
returns-in_err-staged-clause-writes g c honest s key rows shows is_open there ready =
    let old = c.args.store.now in
    refused (λ r. Writes g.D.Disk.state old old c.args.job key rows r s) c.from_residual.result Memory c.from_residual.ensures.1
    (nothing_written g.D.Disk.state old s c.args.job key rows shows is_open old.snapshots refl Memory (λ is. cc))

pub returns-in_err-step-clause-writes : goal.returns-in_err-step-clause-writes
returns-in_err-step-clause-writes g c honest s key rows shows is_open there ready =
    let old = c.args.store.now in
    refused (λ r. Writes g.D.Disk.state old (record old { snapshots = c.step.new.self }) c.args.job key rows r s) c.from_residual-in_err-step.result _ c.from_residual-in_err-step.ensures.1
    (nothing_written g.D.Disk.state old s c.args.job key rows shows is_open c.step.new.self c.in_err-step.ensures.unchanged _ (no_device (job_is_open (state_of old.snapshots) c.args.job) c.in_err-step.field-0.0 there c.in_err-step.ensures.which))

pub returns-in_err-put-clause-writes : goal.returns-in_err-put-clause-writes
returns-in_err-put-clause-writes g c honest s key rows shows is_open there ready =
    let old = c.args.store.now in
    let part = c.args.part in
    let disk = g.D.Disk.state old.vault.disk in
    let path = c.as_str.ensures.value in
    let can = can_put g.D.Disk.state old s c.args.job key rows shows is_open part ready c.requires.counter honest in
    let puts = c.in_err-put.ensures.effect (subst (λ (p : List ℕ). CanPut disk p) (sym path) can) in
    let same = c.in_ok-staged.ensures.cases in
    let number = ap (λ (x : CodeGroup). (group_view x).number) same ∙ ready.number_is in
    let key_is = ap (λ (x : CodeGroup). (group_view x).key) same ∙ ready.key_is in
    let new = record old { vault = c.put.new.self; snapshots = c.step.new.self; next_group = old.next_group + 1 } in
    refused (λ r. Writes g.D.Disk.state old new c.args.job key rows r s) c.from_residual-in_err-put.result _ c.from_residual-in_err-put.ensures.1
    (put_refused g.D.Disk.state old s c.args.job key rows shows is_open part ready c.requires.counter c.in_ok-staged.staged number key_is c.step.new.self c.in_ok-step.ensures.done c.put.new.self
    c.as_slice.result.now c.in_err-put.field-0.0 (subst (λ (p : List ℕ). Puts {T = Unit {0}} p c.as_slice.result.now disk (g.D.Disk.state c.put.new.self.disk) (Err c.in_err-put.field-0.0)) path puts))

pub returns-clause-writes : goal.returns-clause-writes
returns-clause-writes g c honest s key rows shows is_open there ready =
    let old = c.args.store.now in
    let part = c.args.part in
    let disk = g.D.Disk.state old.vault.disk in
    let path = c.as_str.ensures.value in
    let can = can_put g.D.Disk.state old s c.args.job key rows shows is_open part ready c.requires.counter honest in
    let puts = c.in_ok-put.ensures.effect (subst (λ (p : List ℕ). CanPut disk p) (sym path) can) in
    let same = c.in_ok-staged.ensures.cases in
    let number = ap (λ (x : CodeGroup). (group_view x).number) same ∙ ready.number_is in
    let key_is = ap (λ (x : CodeGroup). (group_view x).key) same ∙ ready.key_is in
    put_done g.D.Disk.state old s c.args.job key rows shows is_open part ready c.requires.counter c.in_ok-staged.staged number key_is c.step.new.self c.in_ok-step.ensures.done c.put.new.self c.in_ok-put.field-0 there (ap (λ (x : CodeGroup). group_view x) same)
    (subst (λ (b : List ℕ). Puts {T = Unit {0}} (string_bytes part.path) b disk (g.D.Disk.state c.put.new.self.disk) (Ok c.in_ok-put.field-0)) c.as_slice.ensures.value
    (subst (λ (p : List ℕ). Puts {T = Unit {0}} p c.as_slice.result.now disk (g.D.Disk.state c.put.new.self.disk) (Ok c.in_ok-put.field-0)) path puts))

put_cause : (v : Versions) (job : Option ℕ) (e : Refusal) → HasCause (λ f. unless (job_is_open v job) NoJob ≡ Some f) e → HasCause (IsPutRefusal v job) e
put_cause v job Memory h = tt
put_cause v job Device h = tt
put_cause v job NoJob h = (job_gone (job_is_open v job) NoJob h).1
put_cause v job e h = absurd (let is = (job_gone (job_is_open v job) e h).0 in cc)

pub returns-in_err-step-clause-which : goal.returns-in_err-step-clause-which
returns-in_err-step-clause-which g c =
    let versions = state_of c.args.store.now.snapshots in
    refused (λ r. RefusedOnly (IsPutRefusal versions c.args.job) r) c.from_residual-in_err-step.result _ c.from_residual-in_err-step.ensures.1
    (put_cause versions c.args.job c.in_err-step.field-0.0 c.in_err-step.ensures.which)
