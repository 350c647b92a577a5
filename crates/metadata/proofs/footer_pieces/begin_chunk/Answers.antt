use Rattle.std.proofs.Common.{◌≡◌, ℤ, [], List, map, refl, ap, subst, ◌∙◌}
use Rattle.bits.specs.Refusals.{HasCause}
use Rattle.bits.proofs.Passing.{passes}
use Rattle.thrift_compact.specs.Tree.{Node}
use Rattle.thrift_compact.specs.View.{field_view, fields_of}
use Rattle.thrift_compact.specs.Piecewise.{BeginsStruct}
use Rattle.thrift_compact.specs.Shapes.{fields_have_shape, IsShapeless}
use Rattle.metadata.specs.Begun.{chunk_start}
use Rattle.metadata.proofs.Shaped.{memory_left}
use Rattle.metadata.proofs.footer_pieces.begin_chunk.Goals as goal

pub returns-in_err-_last-clause-which : goal.returns-in_err-_last-clause-which
returns-in_err-_last-clause-which c =
    let start = chunk_start c.args.path.now in
    let e = c.in_err-_last.field-0.0 in
    let same : map field_view c.as_slice.result.now ≡ start = ap (map field_view) c.as_slice.ensures.value ∙ c.in_ok-fields.ensures.stands in
    passes (HasCause (λ e. ⊥)) c.from_residual-in_err-_last.result e c.from_residual-in_err-_last.ensures.1
    (memory_left (fields_have_shape 32 (fields_of start)) e refl
    (subst (λ (fs : List (ℤ × Node)). HasCause (IsShapeless (fields_have_shape 32 (fields_of fs))) e) same c.in_err-_last.ensures.which))

pub returns-clause-stands : goal.returns-clause-stands
returns-clause-stands c =
    let old = c.args.out.now.items in
    let new = c.put_next_fields.new.out.items in
    let same : map field_view c.as_slice.result.now ≡ chunk_start c.args.path.now = ap (map field_view) c.as_slice.ensures.value ∙ c.in_ok-fields.ensures.stands in
    subst (λ (fs : List (ℤ × Node)). BeginsStruct fs old new) same (c.in_ok-_last.ensures.stands [] old refl (c.structs_are_written_in_pieces.ensures.begins old))
