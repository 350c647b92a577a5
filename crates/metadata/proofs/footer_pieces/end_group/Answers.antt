use Rattle.std.proofs.Common.{◌≡◌, ℤ, [], ◌∷◌, ◌++◌, List, map, refl, ap, subst, ◌∙◌}
use Rattle.std.specs.Int.{w64}
use Rattle.std.proofs.lemmas.Int.{to_z-of_z}
use Rattle.bits.specs.Refusals.{HasCause}
use Rattle.bits.proofs.Passing.{passes}
use Rattle.thrift_compact.specs.Tree.{Node}
use Rattle.thrift_compact.specs.View.{field_view, fields_of}
use Rattle.thrift_compact.specs.Piecewise.{BeginsStruct}
use Rattle.thrift_compact.specs.Shapes.{fields_have_shape, IsShapeless}
use Rattle.thrift_compact.proofs.Appending.{ok_then}
use Rattle.metadata.specs.Begun.{group_rest}
use Rattle.metadata.proofs.BegunFooters.{columns_field, chunks_end}
use Rattle.metadata.proofs.Shaped.{group_rest_fits, memory_left}
use Rattle.metadata.proofs.footer_pieces.end_group.Goals as goal

pub returns-in_err-_last-clause-which : goal.returns-in_err-_last-clause-which
returns-in_err-_last-clause-which c =
    let rest = group_rest c.args.total_byte_size c.args.num_rows in
    let e = c.in_err-_last.field-0.0 in
    let same : map field_view c.as_slice.result.now ≡ rest = ap (map field_view) c.as_slice.ensures.value ∙ c.in_ok-fields.ensures.stands ∙ ap (λ (z : ℤ). group_rest c.args.total_byte_size z) (to_z-of_z w64 c.args.num_rows c.ranges.num_rows) in
    passes (HasCause (λ e. ⊥)) c.from_residual-in_err-_last.result e c.from_residual-in_err-_last.ensures.1
    (memory_left (fields_have_shape 32 (fields_of rest)) e (group_rest_fits c.args.total_byte_size c.args.num_rows)
    (subst (λ (fs : List (ℤ × Node)). HasCause (IsShapeless (fields_have_shape 32 (fields_of fs))) e) same c.in_err-_last.ensures.which))

pub returns-clause-stands : goal.returns-clause-stands
returns-clause-stands c =
    let rest = group_rest c.args.total_byte_size c.args.num_rows in
    let out = c.args.out.now.items in
    let mid = c.put_next_fields.new.out.items in
    let same : map field_view c.as_slice.result.now ≡ rest = ap (map field_view) c.as_slice.ensures.value ∙ c.in_ok-fields.ensures.stands ∙ ap (λ (z : ℤ). group_rest c.args.total_byte_size z) (to_z-of_z w64 c.args.num_rows c.ranges.num_rows) in
    ok_then c.put_end.result
    (λ done cs old begun.
    let front = columns_field cs ∷ [] in
    let more = c.in_ok-_last.ensures.stands front old refl (chunks_end c.structs_are_written_in_pieces.ensures.ends cs old out begun) in
    let all = subst (λ (fs : List (ℤ × Node)). BeginsStruct (front ++ fs) old mid) same more in
    done (front ++ rest) old all) c.put_end.ensures.stands
