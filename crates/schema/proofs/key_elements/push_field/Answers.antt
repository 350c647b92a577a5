use Rattle.std.proofs.Common.{◌≡◌, ◌+◌, ◌++◌, ℕ, List, take, drop, ap, ◌∙◌, arith}
use Rattle.std.proofs.lemmas.List.{length-map}
use Rattle.schema.specs.Elements.{Element, element_view, elements_view}
use Rattle.schema.specs.Listed.{listing}
use Rattle.schema.specs.Views.{field_view}
use Rattle.schema.proofs.TableLeaves.{room, first_of, drop_seen, behind}
use Rattle.schema.proofs.key_elements.push_field.Goals as goal

pub count_elements-size-requires : goal.count_elements-size-requires
count_elements-size-requires c =
    let given = c.args.given.now in
    let all = room c.args.from (elements_view given) (field_view c.args.field.now) c.requires.0 c.requires.1 in
    let size = length-map given element_view in
    omega (arith, all, size, c.same_count-count.ensures.fits)

pub split_at-requires : goal.split_at-requires
split_at-requires c =
    let given = c.args.given.now in
    let all = room c.args.from (elements_view given) (field_view c.args.field.now) c.requires.0 c.requires.1 in
    let size = length-map given element_view in
    omega (arith, all, size)

pub returns-clause-adds : goal.returns-clause-adds
returns-clause-adds c =
    let given = c.args.given.now in
    let from = c.args.from in
    let f = field_view c.args.field.now in
    let own : elements_view c.split_at-2.result.0.now ≡ listing f =
    ap elements_view (c.split_at-2.ensures.front ∙ ap (take c.count_elements-size.result) c.split_at.ensures.back)
    ∙ ap (λ (n : ℕ). elements_view (take n (drop from given))) c.count_elements-size.ensures
    ∙ first_of (drop from given) (listing f) c.requires.0 (drop_seen from given ∙ c.requires.1) in
    c.in_ok-push_copies.ensures.adds ∙ ap (λ (es : List Element). elements_view c.args.out.now.items ++ es) own

pub returns-clause-behind : goal.returns-clause-behind
returns-clause-behind c = λ later e.
    let es = elements_view c.args.given.now in
    ap (λ (n : ℕ). drop (c.args.from + n) es) c.count_elements-size.ensures ∙ behind c.args.from es (listing (field_view c.args.field.now)) later e
