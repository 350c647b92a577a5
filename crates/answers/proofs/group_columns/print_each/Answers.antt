use Rattle.std.proofs.Common.{◌≡◌, ◌<◌, ◌≤◌, ◌++◌, ◌∷◌, [], Ok, Some, length, map, option_map, sym, ap, subst, ◌∙◌, arith}
use Rattle.std.specs.List.{slice_get}
use Rattle.std.specs.Io.KnownBytes.{Appends}
use Rattle.serde_json.specs.Data.{Data}
use Rattle.serde_json.specs.Written.{compact_text}
use Rattle.schema.specs.Stripe.{leaves_of}
use Rattle.schema.specs.Views.{leaf_view}
use Rattle.statistics.specs.Bounds.{statistics_of}
use Rattle.manifest.specs.Groups.{root_of, group_view}
use Rattle.manifest.specs.Root.{stored_of}
use Rattle.jsonrows.specs.GroupColumns.{group_and_columns_json}
use Rattle.answers.proofs.ToldColumns.{none_paired, paired_more, all_paired}
use Rattle.answers.proofs.group_columns.print_each.Goals as goal

pub loop-place-init : goal.loop-place-init
loop-place-init g c = none_paired c.args.texts (leaves_of (stored_of (root_of c.args.table.now))) (g.W.Write.contents c.args.out.now)

pub loop-place-preserved : goal.loop-place-preserved
loop-place-preserved g c =
    let l = c.loop-place in
    let root = root_of c.args.table.now in
    let leaves = leaves_of (stored_of root) in
    let infos = c.args.groups.now in
    let info = c.index-groups-place.result in
    let group = group_view c.in-Some.described.now in
    let mid = g.W.Write.contents l.out in
    let new = g.W.Write.contents c.print_one.new.out in
    let within : l.place < length infos = omega arith in
    let at : slice_get root.groups l.place ≡ Some group = ap (λ gs. slice_get gs l.place) (sym c.groups.ensures.are) ∙ sym c.group_at.ensures ∙ ap (option_map (λ x. group_view x.now)) c.in-Some.is in
    let leaves_are : map leaf_view c.leaves-leaves.result.now ≡ leaves = c.leaves-leaves.ensures.leaves_are ∙ ap leaves_of c.stored.ensures in
    let known_are : map statistics_of c.as_slice.result.now ≡ group.known.leaves = ap (map statistics_of) c.as_slice.ensures.value in
    let written = subst (λ known. (d : Data) × (group_and_columns_json c.args.texts leaves info known ≡ Ok d) × Appends mid new (compact_text d ++ 10 ∷ [])) known_are
    (subst (λ ls. (d : Data) × (group_and_columns_json c.args.texts ls info (map statistics_of c.as_slice.result.now) ≡ Ok d) × Appends mid new (compact_text d ++ 10 ∷ [])) leaves_are c.in_ok-print_one-in-Some.ensures.written) in
    paired_more c.args.texts leaves infos root.groups l.place info group (g.W.Write.contents c.args.out.now) mid new within c.index-groups-place.is at l.invariant written

pub returns : goal.returns
returns g c =
    let l = c.loop-place in
    let root = root_of c.args.table.now in
    let all : length c.args.groups.now ≤ l.place = omega arith in
    record { printed = λ same. all_paired c.args.texts (leaves_of (stored_of root)) c.args.groups.now root.groups l.place (g.W.Write.contents c.args.out.now) (g.W.Write.contents l.out) all same l.invariant }
