use Rattle.std.proofs.Common.{◌≡◌, ℕ, List, refl, ap, ◌∙◌, Vec, Global}
use Rattle.std.specs.Rc.{rc_value}
use Rattle.manifest.specs.Groups.{groups_in, handles_view}
use Rattle.snapshots.specs.State.{File}
use Rattle.snapshots.specs.declared.numbered.Numbered.{Numbered}
use Rattle.snapshots.specs.declared.held.Job.{Job}
use Rattle.snapshots.specs.declared.held.Cursor.{Cursor}
use Rattle.snapshots.specs.inner.Found.{came}
use Rattle.snapshots.specs.inner.Held.{seen_in, work_in}
use Rattle.snapshots.specs.inner.Spells.{others_in}
use Rattle.std.proofs.Common.{[]}
use Rattle.std.specs.declared.rc.Rc.{Rc}
use Rattle.schema.specs.Cutting.{is_among as is_number_among}
use Rattle.manifest.specs.declared.group.Group.{Group as CodeGroup}
use Rattle.manifest.specs.Groups.{Group}
use Rattle.snapshots.specs.State.{numbers_of}
use Rattle.snapshots.specs.inner.Found.{has_number, came_next}
use Rattle.snapshots.proofs.Commits.{keeps_new, keeps_along, of_some}
use Rattle.snapshots.proofs.States.{start_is, parts_same}
use Rattle.snapshots.proofs.state.Snapshots.new.Goals as goal

pub returns-clause-is : goal.returns-clause-is
returns-clause-is c =
    let cs : seen_in (rc_value c.in_ok-new-2.field-0).items ≡ [] = ap (λ (v : Vec Cursor Global). seen_in v.items) c.in_ok-new-2.ensures.ok ∙ ap (λ (xs : List Cursor). seen_in xs) c.new-3.ensures.items in
    let js : work_in (rc_value c.in_ok-new-3.field-0).items ≡ [] = ap (λ (v : Vec Job Global). work_in v.items) c.in_ok-new-3.ensures.ok ∙ ap (λ (xs : List Job). work_in xs) c.new-5.ensures.items in
    let os : others_in c.in_ok-none.field-0 ≡ [] = c.in_ok-none.ensures.none in
    parts_same refl cs js os ∙ start_is (groups_in c.args.version)

pub invariant_of-result : goal.invariant_of-result
invariant_of-result c =
    let cs : seen_in (rc_value c.in_ok-new-2.field-0).items ≡ [] = ap (λ (v : Vec Cursor Global). seen_in v.items) c.in_ok-new-2.ensures.ok ∙ ap (λ (xs : List Cursor). seen_in xs) c.new-3.ensures.items in
    let js : work_in (rc_value c.in_ok-new-3.field-0).items ≡ [] = ap (λ (v : Vec Job Global). work_in v.items) c.in_ok-new-3.ensures.ok ∙ ap (λ (xs : List Job). work_in xs) c.new-5.ensures.items in
    let os : others_in c.in_ok-none.field-0 ≡ [] = c.in_ok-none.ensures.none in
    let groups : handles_view c.as_slice.result.now ≡ (groups_in c.args.version) = ap (λ (gs : List (Rc CodeGroup Global)). handles_view gs) c.as_slice.ensures.value ∙ c.in_ok-groups.ensures.all in
    let numbers : (n : ℕ) → has_number c.in-Some.numbered n ≡ is_number_among (numbers_of (groups_in c.args.version)) n = λ n.
    of_some (λ (m : Numbered). (k : ℕ) → has_number m k ≡ is_number_among (numbers_of (handles_view c.as_slice.result.now)) k) c.in_ok-numbered.field-0 c.in-Some.numbered c.in-Some.is c.in_ok-numbered.ensures.numbers n
    ∙ ap (λ (gs : List Group). is_number_among (numbers_of gs) n) groups in
    let news : (f : File) → came c.in-Some.numbered f ≡ came_next (came c.new.result) 0 (groups_in c.args.version) f = λ f.
    of_some (λ (m : Numbered). (g : File) → came m g ≡ came_next (came c.new.result) 0 (handles_view c.as_slice.result.now) g) c.in_ok-numbered.field-0 c.in-Some.numbered c.in-Some.is c.in_ok-numbered.ensures.came f
    ∙ ap (λ (gs : List Group). came_next (came c.new.result) 0 gs f) groups in
    record { kept = keeps_along c.in_ok-new.ensures.ok cs js os (keeps_new (groups_in c.args.version) c.new.result c.in-Some.numbered c.new.ensures.came numbers news) }
