use Rattle.std.proofs.Common.{rules, ◌≡◌, Some, refl, sym, ap, ◌∙◌, to_z, of_z}
use Rattle.std.specs.Prelude.{FitsSigned}
use Rattle.std.specs.Int.{w16, w32}
use Rattle.thrift_compact.specs.View.{tree_view, field_views}
use Rattle.reports.specs.Names.{logical_name}
use Rattle.reports.specs.Notes.{name_or_number, member_name}
use Rattle.reports.proofs.Members.{first_member, widened}
use Rattle.reports.proofs.notes.member_name.Goals as goal

pub returns-in_ok-name_or_number-in-len1-up : goal.returns-in_ok-name_or_number-in-len1-up
returns-in_ok-name_or_number-in-len1-up c =
    let m = c.member-item.result in
    let fits : FitsSigned w16 m.id = search rules in
    let number = to_z w32 (of_z w32 c.from-id.result) in
    let same = widened m.id c.from-id.result fits c.from-id.ensures in
    let said = c.in_ok-name_or_number-in-len1-up.ensures ∙ ap (λ name. name_or_number name number) c.logical_name.ensures ∙ ap (λ z. name_or_number (logical_name z) z) same in
    ap Some said ∙ sym (first_member c.as_slice.result.now m c.in-len1-up.len_at_least c.member-item.is) ∙ ap (λ members. member_name (field_views members)) c.as_slice.ensures.value
