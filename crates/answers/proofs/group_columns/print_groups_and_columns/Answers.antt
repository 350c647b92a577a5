use Rattle.std.proofs.Common.{◌≡◌, ◌∙◌, ℕ, List, OnOk, map, ap, subst}
use Rattle.std.proofs.lemmas.Result.{on_ok_weaker}
use Rattle.std.specs.Io.KnownBytes.{Appends}
use Rattle.schema.specs.Stripe.{leaves_of}
use Rattle.table.specs.declared.answer.GroupInfo.{GroupInfo}
use Rattle.manifest.specs.declared.description.Manifest.{Manifest}
use Rattle.manifest.specs.Groups.{root_of}
use Rattle.manifest.specs.Root.{stored_of}
use Rattle.table_reads.specs.Listing.{told_of, told_by}
use Rattle.answers.specs.GroupColumns.{Told, AreColumnLines}
use Rattle.answers.proofs.Counted.{told_groups}
use Rattle.answers.proofs.ToldColumns.{told_all}
use Rattle.answers.proofs.group_columns.print_groups_and_columns.Goals as goal

pub returns-clause-prints : goal.returns-clause-prints
returns-clause-prints g c = λ honest s stands.
    let before = g.W.Write.contents c.args.out.now in
    let after = g.W.Write.contents c.print_each.new.out in
    let infos = c.in_ok-groups.groups.items in
    let table = c.args.store.now.manifest in
    let kept : c.manifest.result.now ≡ table = c.manifest.ensures ∙ ap (λ x. x.manifest) c.in_ok-groups.ensures.same in
    let summed = told_groups g.D.Disk.state c.args.store.now c.groups.new.self s infos (c.in_ok-groups.ensures.acts honest s stands) in
    let Printed : List GroupInfo → Manifest → Type 0 = λ gs m. map told_by gs ≡ map told_of (root_of m).groups → OnOk c.print_each.result ((told : List Told) × (printed : List ℕ) × (map (λ (t : Told). t.0) told ≡ gs)
    × (map (λ (t : Told). t.1) told ≡ (root_of m).groups) × AreColumnLines c.args.texts (leaves_of (stored_of (root_of m))) told printed × Appends before after printed) in
    let printed : Printed infos table = subst (λ gs. Printed gs table) c.as_slice.ensures.value (subst (λ m. Printed c.as_slice.result.now m) kept c.print_each.ensures.printed) in
    on_ok_weaker c.print_each.result (told_all c.args.texts (leaves_of (stored_of (root_of table))) infos (root_of table) s.table before after c.in_ok-groups.ensures.told summed) (printed c.in_ok-groups.ensures.told)
