use Rattle.std.proofs.Common.{◌≡◌, ℤ, ◌∷◌, ◌++◌, [], List, map, sym, ap, subst, ◌∙◌}
use Rattle.bits.specs.Refusals.{HasCause}
use Rattle.bits.proofs.Passing.{passes}
use Rattle.thrift_compact.specs.Tree.{Node, Fields}
use Rattle.thrift_compact.specs.View.{field_view, fields_of}
use Rattle.thrift_compact.specs.Length.{AppendsStruct}
use Rattle.thrift_compact.specs.Piecewise.{BeginsStruct}
use Rattle.thrift_compact.specs.Shapes.{fields_have_shape, IsShapeless}
use Rattle.thrift_compact.proofs.Appending.{ok_then}
use Rattle.thrift_compact.proofs.WrittenPieces.{last_more}
use Rattle.metadata.specs.Ids as ids
use Rattle.metadata.specs.Begun.{fields_before, fields_after}
use Rattle.metadata.specs.Records.{FileMeta}
use Rattle.metadata.specs.Views.{file_meta_view}
use Rattle.metadata.proofs.BegunFooters.{groups_field, footer_joined, groups_end}
use Rattle.metadata.proofs.Shaped.{after_fits, memory_left}
use Rattle.metadata.proofs.file_meta.FileMeta.end.Goals as goal

pub returns-in_err-_last-clause-which : goal.returns-in_err-_last-clause-which
returns-in_err-_last-clause-which c =
    let seen = file_meta_view c.args.self.now in
    let e = c.in_err-_last.field-0.0 in
    let same : map field_view c.as_slice.result.now ≡ fields_after seen = ap (map field_view) c.as_slice.ensures.value ∙ c.in_ok-fields.ensures.stands in
    passes (HasCause (λ e. ⊥)) c.from_residual-in_err-_last.result e c.from_residual-in_err-_last.ensures.1
    (memory_left (fields_have_shape 32 (fields_of (fields_after seen))) e (after_fits seen)
    (subst (λ (fs : List (ℤ × Node)). HasCause (IsShapeless (fields_have_shape 32 (fields_of fs))) e) same c.in_err-_last.ensures.which))

pub returns-clause-stands : goal.returns-clause-stands
returns-clause-stands c =
    let seen = file_meta_view c.args.self.now in
    let out = c.args.out.now.items in
    let mid = c.put_next_fields.new.out.items in
    let new = c.put_end.new.out.items in
    let same : map field_view c.as_slice.result.now ≡ fields_after seen = ap (map field_view) c.as_slice.ensures.value ∙ c.in_ok-fields.ensures.stands in
    ok_then c.put_end.result
    (λ done gs old begun.
    let m : FileMeta = record seen { row_groups = gs } in
    let front = fields_before m ++ groups_field m ∷ [] in
    let more = c.in_ok-_last.ensures.stands front old (sym (last_more (fields_before m) ids.file_row_groups _)) (groups_end c.structs_are_written_in_pieces.ensures.ends m old out begun) in
    let all = subst (λ (fs : List (ℤ × Node)). BeginsStruct (front ++ fs) old mid) same more in
    subst (λ (fs : Fields). AppendsStruct fs old new) (footer_joined m) (done (front ++ fields_after m) old all)) c.put_end.ensures.stands
