use Rattle.std.specs.Int.{w16}
use Rattle.std.proofs.lemmas.Int.{to_z-of_z}
use Rattle.std.proofs.Common.{FitsSigned, rules, ◌≡◌, ℕ, ℤ, [], List, map, refl, sym, ap, subst, ◌∙◌}
use Rattle.std.specs.Prelude.{pos}
use Rattle.lists.proofs.Booleans.{not_true_and_false as not_shapeless}
use Rattle.bits.specs.declared.refusal.Refusal.TheVariants.{Thrift}
use Rattle.bits.specs.Refusals.{HasCause}
use Rattle.bits.proofs.Passing.{passes}
use Rattle.thrift_compact.specs.Tree.{Node}
use Rattle.thrift_compact.specs.View.{field_view, fields_of}
use Rattle.thrift_compact.specs.Piecewise.{BeginsStruct, BeginsList, last_id, last_of}
use Rattle.thrift_compact.specs.Shapes.{fields_have_shape, IsShapeless}
use Rattle.thrift_compact.proofs.Appending.{ok_then}
use Rattle.metadata.specs.Ids as ids
use Rattle.metadata.specs.Begun.{fields_before}
use Rattle.metadata.specs.Kept.{EachKeepsWritten}
use Rattle.metadata.specs.ToTree.{STRUCT}
use Rattle.metadata.specs.Views.{file_meta_view}
use Rattle.metadata.proofs.Shaped.{before_fits, because, each_keeps_shape}
use Rattle.metadata.proofs.file_meta.FileMeta.begin.Goals as goal

pub returns-in_err-last-clause-which : goal.returns-in_err-last-clause-which
returns-in_err-last-clause-which c =
    let seen = file_meta_view c.args.self.now in
    let b = fields_have_shape 32 (fields_of (fields_before seen)) in
    let e = c.in_err-last.field-0.0 in
    let same : map field_view c.as_slice.result.now ≡ fields_before seen = ap (map field_view) c.as_slice.ensures.value ∙ c.in_ok-fields.ensures.stands in
    passes (HasCause (λ e. (e ≡ Thrift) × (EachKeepsWritten seen → ⊥))) c.from_residual-in_err-last.result e c.from_residual-in_err-last.ensures.1
    (because b (EachKeepsWritten seen → ⊥) e (λ shapeless kept. not_shapeless b (before_fits seen (each_keeps_shape c.structs_with_bytes_have_the_shape.ensures seen.schema kept)) shapeless)
    (subst (λ (fs : List (ℤ × Node)). HasCause (IsShapeless (fields_have_shape 32 (fields_of fs))) e) same c.in_err-last.ensures.which))

pub returns-clause-stands : goal.returns-clause-stands
returns-clause-stands c =
    let seen = file_meta_view c.args.self.now in
    let old = c.args.out.now.items in
    let mid = c.put_next_fields.new.out.items in
    let new = c.put_list_start.new.out.items in
    let same : map field_view c.as_slice.result.now ≡ fields_before seen = ap (map field_view) c.as_slice.ensures.value ∙ c.in_ok-fields.ensures.stands in
    let begun : BeginsStruct (fields_before seen) old mid = subst (λ (fs : List (ℤ × Node)). BeginsStruct fs old mid) same (c.in_ok-last.ensures.stands [] old refl (c.structs_are_written_in_pieces.ensures.begins old)) in
    let last : c.in_ok-last.last ≡ last_of (fields_before seen) = c.in_ok-last.ensures.last ∙ ap (λ (fs : List (ℤ × Node)). last_id (fields_of fs) (pos 0)) same in
    let fits : FitsSigned w16 c.in_ok-last.last = search rules in
    ok_then c.put_list_start.result
    (λ start gs size. subst (λ (n : ℕ). BeginsList (fields_before seen) ids.file_row_groups STRUCT n [] old new) (sym size) (start (fields_before seen) old (to_z-of_z w16 c.in_ok-last.last fits ∙ last) begun)) c.put_list_start.ensures.stands
