use Rattle.std.proofs.Common.{◌≡◌, ◌<◌, ◌+◌, nat_eq, ℕ, true, not, List, [], length, Err, refl, sym, ◌∙◌, ap, subst}
use Rattle.std.specs.List.{AllByRecursion, list_all}
use Rattle.std.proofs.lemmas.Bool.{false≢true, eqb-true}
use Rattle.std.proofs.lemmas.List.{nil_from_length}
use Rattle.bits.specs.declared.refusal.Refusal.{Refusal}
use Rattle.schema.specs.Cutting.{is_among}
use Rattle.vault.proofs.Chained.{refused}
use Rattle.manifest.specs.Groups.{Group as FileGroup, root_of, groups_in}
use Rattle.manifest.specs.Root.{CanHave, stored_of}
use Rattle.manifest.specs.Records.{IsGroup}
use Rattle.planning.specs.Told.{numbers_of}
use Rattle.planning.specs.Replaced.{without}
use Rattle.table.specs.Calls.{remove_groups, done}
use Rattle.table.specs.Refusing.{is_failure}
use Rattle.table.specs.Views.{answered}
use Rattle.vault.specs.Calls.{HasFailed}
use Rattle.table_commits.specs.Dropping.{rows_in}
use Rattle.table_state.specs.Promises.{ActsFrom}
use Rattle.table_commits.proofs.SomeGroups.{all_kept}
use Rattle.table_commits.proofs.UnchangedRefusals.{acts_shut}
use Rattle.table_commits.proofs.GroupRemovals.{poor, planned, no_group, nothing_goes, over, done_so, refused_so, failure_of}
use Rattle.table_changes.proofs.dropping.remove_groups.Goals as goal

pub returns-then-store-clause-acts : goal.returns-then-store-clause-acts
returns-then-store-clause-acts g c = acts_shut g.D.Disk.state c.args.store.now (remove_groups c.args.numbers.now) refl c.if-store.true

pub returns-in_err-has_all-clause-acts : goal.returns-in_err-has_all-clause-acts
returns-in_err-has_all-clause-acts g c honest s stands =
    refused (λ r. ActsFrom g.D.Disk.state c.args.store.now c.args.store.now (remove_groups c.args.numbers.now) (answered {T = ℕ} (λ x. done x) r) s) c.from_residual.result _ c.from_residual.ensures.1
    (poor g.D.Disk.state c.args.store.now (remove_groups c.args.numbers.now) refl (λ t e. ap not e) (λ t. refl) c.in_err-has_all.field-0.0 c.in_err-has_all.ensures.which c.if-store.false honest s stands)

pub returns-then-not-branch-clause-acts : goal.returns-then-not-branch-clause-acts
returns-then-not-branch-clause-acts g c honest s stands =
    let old = c.args.store.now in
    let ns = c.args.numbers.now in
    let groups = ap (λ (gs : List FileGroup). list_all (is_among (numbers_of gs)) ns) c.groups.ensures.are in
    no_group g.D.Disk.state old s stands (sym stands.shows.closed ∙ c.if-store.false) ns (sym groups ∙ sym c.in_ok-has_all.ensures.all ∙ c.if-not-branch.true)

pub returns-then-is_empty-clause-acts : goal.returns-then-is_empty-clause-acts
returns-then-is_empty-clause-acts g c honest s stands =
    let old = c.args.store.now in
    let ns = c.args.numbers.now in
    let groups = ap (λ (gs : List FileGroup). list_all (is_among (numbers_of gs)) ns) c.groups.ensures.are in
    nothing_goes g.D.Disk.state old s stands (sym stands.shows.closed ∙ c.if-store.false) ns (sym groups ∙ sym c.in_ok-has_all.ensures.all ∙ c.if-not-branch.false) (nil_from_length ns (eqb-true (length ns) 0 (sym c.is_empty.ensures ∙ c.if-is_empty.true)))

pub returns-in_err-groups-clause-acts : goal.returns-in_err-groups-clause-acts
returns-in_err-groups-clause-acts g c honest s stands =
    refused (λ r. ActsFrom g.D.Disk.state c.args.store.now c.args.store.now (remove_groups c.args.numbers.now) (answered {T = ℕ} (λ x. done x) r) s) c.from_residual-in_err-groups.result _ c.from_residual-in_err-groups.ensures.1
    (poor g.D.Disk.state c.args.store.now (remove_groups c.args.numbers.now) refl (λ t e. ap not e) (λ t. refl) c.in_err-groups.field-0.0 c.in_err-groups.ensures.which c.if-store.false honest s stands)

pub returns-in_err-commit_version-clause-acts : goal.returns-in_err-commit_version-clause-acts
returns-in_err-commit_version-clause-acts g c honest s stands =
    let old = c.args.store.now in
    let ns = c.args.numbers.now in
    let is_open = sym stands.shows.closed ∙ c.if-store.false in
    let groups = ap (λ (gs : List FileGroup). list_all (is_among (numbers_of gs)) ns) c.groups.ensures.are in
    let there = sym groups ∙ sym c.in_ok-has_all.ensures.all ∙ c.if-not-branch.false in
    let some = λ (e : ns ≡ []). false≢true (sym c.if-is_empty.false ∙ c.is_empty.ensures ∙ ap (λ (xs : List ℕ). nat_eq (length xs) 0) e) in
    let files = c.in_ok-groups.ensures.left ∙ ap (without ns) c.groups-2.ensures.are in
    let counted = subst (λ (gs : List FileGroup). c.in_ok-groups.field-0.count + rows_in (without ns gs) ≡ rows_in gs) c.groups-2.ensures.are c.in_ok-groups.ensures.counted in
    let plan = planned g.D.Disk.state old s stands is_open ns _ _ files c.next-next.ensures in
    let failed = c.in_err-commit_version in
    refused (λ r. ActsFrom g.D.Disk.state old c.commit_version.new.store (remove_groups ns) (answered {T = ℕ} (λ x. done x) r) s) c.from_residual-in_err-commit_version.result _ c.from_residual-in_err-commit_version.ensures.1
    (refused_so g.D.Disk.state old s stands is_open ns there some c.in_ok-groups.field-0.count counted c.commit_version.new.store failed.field-0.0 (failed.ensures.which s _ s.jobs plan)
    (λ is. over g.D.Disk.state old s stands is_open ns there some c.in_ok-groups.field-0.count counted _ _ files c.next-next.ensures (failed.ensures.limit (ap (λ (e : Refusal). Err e) is) s _ s.jobs plan))
    (failed.ensures.turns honest s _ s.jobs stands.shows is_open plan))

pub returns-in_err-commit_version-clause-cause : goal.returns-in_err-commit_version-clause-cause
returns-in_err-commit_version-clause-cause g c honest s stands =
    let old = c.args.store.now in
    let ns = c.args.numbers.now in
    let is_open = sym stands.shows.closed ∙ c.if-store.false in
    let files = c.in_ok-groups.ensures.left ∙ ap (without ns) c.groups-2.ensures.are in
    let plan = planned g.D.Disk.state old s stands is_open ns _ _ files c.next-next.ensures in
    let failed = c.in_err-commit_version in
    refused (λ r. is_failure (answered {T = ℕ} (λ x. done x) r) ≡ true → HasFailed (g.D.Disk.state old.vault.disk) (g.D.Disk.state c.commit_version.new.store.vault.disk)) c.from_residual-in_err-commit_version.result _ c.from_residual-in_err-commit_version.ensures.1
    (λ h. (failed.ensures.turns honest s _ s.jobs stands.shows is_open plan).cause (failure_of failed.field-0.0 h))

pub returns-clause-acts : goal.returns-clause-acts
returns-clause-acts g c honest s stands =
    let old = c.args.store.now in
    let ns = c.args.numbers.now in
    let is_open = sym stands.shows.closed ∙ c.if-store.false in
    let groups = ap (λ (gs : List FileGroup). list_all (is_among (numbers_of gs)) ns) c.groups.ensures.are in
    let there = sym groups ∙ sym c.in_ok-has_all.ensures.all ∙ c.if-not-branch.false in
    let some = λ (e : ns ≡ []). false≢true (sym c.if-is_empty.false ∙ c.is_empty.ensures ∙ ap (λ (xs : List ℕ). nat_eq (length xs) 0) e) in
    let files = c.in_ok-groups.ensures.left ∙ ap (without ns) c.groups-2.ensures.are in
    let counted = subst (λ (gs : List FileGroup). c.in_ok-groups.field-0.count + rows_in (without ns gs) ≡ rows_in gs) c.groups-2.ensures.are c.in_ok-groups.ensures.counted in
    let plan = planned g.D.Disk.state old s stands is_open ns _ _ files c.next-next.ensures in
    done_so g.D.Disk.state old s stands is_open ns there some c.in_ok-groups.field-0.count counted c.commit_version.new.store (c.in_ok-commit_version.ensures.turns honest s _ s.jobs stands.shows is_open plan)

pub commit_version-requires : goal.commit_version-requires
commit_version-requires g c =
    let next = c.next-next.ensures in
    let ns = c.args.numbers.now in
    let root = root_of c.args.store.now.manifest in
    record {
      below = subst (λ (n : ℕ). AllByRecursion (λ (f : FileGroup). f.number < n) (groups_in c.in_ok-groups.field-0.groups)) (sym next)
          (subst (λ (gs : List FileGroup). AllByRecursion (λ (f : FileGroup). f.number < (root_of c.args.store.now.manifest).next) gs) (sym c.in_ok-groups.ensures.left)
          (all_kept (λ (f : FileGroup). not (is_among ns f.number)) (λ (f : FileGroup). f.number < (root_of c.args.store.now.manifest).next) (groups_in c.groups-2.result.now) c.groups-2.ensures.below));
      each = subst (λ (gs : List FileGroup). CanHave root gs) (sym c.in_ok-groups.ensures.left)
          (all_kept (λ (f : FileGroup). not (is_among ns f.number)) (IsGroup root.keys (stored_of root)) (groups_in c.groups-2.result.now) c.groups-2.ensures.each);
    }

pub returns-then-is_empty-clause-tidy : goal.returns-then-is_empty-clause-tidy
returns-then-is_empty-clause-tidy g c some honest s stands keeps = absurd (some (nil_from_length c.args.numbers.now (eqb-true (length c.args.numbers.now) 0 (sym c.is_empty.ensures ∙ c.if-is_empty.true))))

pub returns-clause-tidy : goal.returns-clause-tidy
returns-clause-tidy g c some honest s stands keeps = c.in_ok-commit_version.ensures.tidy honest s stands.shows (sym stands.shows.closed ∙ c.if-store.false) keeps
