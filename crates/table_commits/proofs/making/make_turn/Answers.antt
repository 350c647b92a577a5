use Rattle.std.proofs.Common.{◌≡◌, ◌⊎◌, inr, ◌∙◌, ℕ, Bool, true, false, List, [], ◌∷◌, Option, Some, subst}
use Rattle.bits.specs.Refusals.{HasCause, RefusedOnly}
use Rattle.bits.specs.declared.refusal.Refusal.{Refusal}
use Rattle.bits.specs.declared.refusal.Refusal.TheVariants.{Limit, InDoubt, NoJob, Stale, Page}
use Rattle.vault.proofs.Chained.{refused}
use Rattle.manifest.specs.Groups.{Group, root_of, groups_in}
use Rattle.scan.proofs.Passages.{cause_map}
use Rattle.snapshots.specs.State.{State, Version, fault_of, committed, first_of, unless, job_is_open, has_groups, sources_of, is_version}
use Rattle.snapshots.specs.Views.{state_of}
use Rattle.table_state.specs.Promises.{IsSure}
use Rattle.table_commits.proofs.making.make_turn.Goals as goal

-- no check of a commit refuses so
never : (a b c : Bool) → first_of (unless a NoJob ∷ unless b Stale ∷ unless c Page ∷ []) ≡ Some InDoubt → ⊥
never true true true e = cc
never true true false e = cc
never true false c e = cc
never false b c e = cc

-- a commit is not refused so
never_in_doubt : (s : State) (version : Version) (job : Option ℕ) → fault_of s (committed version job) ≡ Some InDoubt → ⊥
never_in_doubt s version job e = never (job_is_open s job) (has_groups s.current (sources_of s job)) (is_version version) e

pub returns-in_err-prepared-clause-which : goal.returns-in_err-prepared-clause-which
returns-in_err-prepared-clause-which g c =
    let s = state_of c.args.store.now.snapshots in
    let e = c.in_err-prepared.field-0.0 in
    let version = groups_in c.in_ok-version.version in
    let groups = (root_of c.args.manifest).groups in
    let same : version ≡ groups = c.in_ok-version.ensures.same ∙ c.groups.ensures.are in
    let P : Refusal → Type 0 = λ f. fault_of s (committed version c.args.job) ≡ Some f in
    let Q : Refusal → Type 0 = λ f. (f ≡ Limit) ⊎ (fault_of s (committed groups c.args.job) ≡ Some f) in
    refused (λ r. RefusedOnly Q r) c.from_residual-in_err-prepared.result e c.from_residual-in_err-prepared.ensures.1
    (cause_map P Q (λ f h. inr (subst (λ (gs : List Group). fault_of s (committed gs c.args.job) ≡ Some f) same h)) e c.in_err-prepared.ensures.which)

pub returns-in_err-prepared-clause-sure : goal.returns-in_err-prepared-clause-sure
returns-in_err-prepared-clause-sure g c =
    let s = state_of c.args.store.now.snapshots in
    let e = c.in_err-prepared.field-0.0 in
    let version = groups_in c.in_ok-version.version in
    let P : Refusal → Type 0 = λ f. fault_of s (committed version c.args.job) ≡ Some f in
    refused (λ r. IsSure r) c.from_residual-in_err-prepared.result e c.from_residual-in_err-prepared.ensures.1
    (λ is. let same : e ≡ InDoubt = cc in
    never_in_doubt s version c.args.job (subst (λ (f : Refusal). HasCause P f) same c.in_err-prepared.ensures.which))
