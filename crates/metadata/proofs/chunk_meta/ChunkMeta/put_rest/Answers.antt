use Rattle.std.proofs.Common.{◌≡◌, None, ap, subst, ◌∙◌}
use Rattle.bits.specs.Refusals.{RefusedOnly}
use Rattle.thrift_compact.specs.Tree.{Fields}
use Rattle.thrift_compact.specs.View.{field_views}
use Rattle.thrift_compact.specs.Piecewise.{AppendsRest}
use Rattle.thrift_compact.specs.Shapes.{fields_have_shape, IsShapeless}
use Rattle.thrift_compact.proofs.Appending.{ok_then}
use Rattle.metadata.specs.Ids as ids
use Rattle.metadata.specs.Begun.{chunk_rest}
use Rattle.metadata.specs.Views.{chunk_meta_view}
use Rattle.metadata.proofs.Shaped.{chunk_fits_alone, memory_only}
use Rattle.metadata.proofs.chunk_meta.ChunkMeta.put_rest.Goals as goal

pub returns-clause-stands : goal.returns-clause-stands
returns-clause-stands c =
    let seen = chunk_meta_view c.args.self.now in
    let is : field_views c.as_slice.result.now ≡ chunk_rest seen = ap field_views c.as_slice.ensures.value ∙ c.in_ok-fields.ensures.stands in
    ok_then c.put_rest.result (λ rest. subst (λ (fs : Fields). AppendsRest fs ids.chunk_file_path c.args.out.now.items c.put_rest.new.out.items) is rest) c.put_rest.ensures.stands

pub returns-clause-which : goal.returns-clause-which
returns-clause-which c =
    let seen = chunk_meta_view c.args.self.now in
    let is : field_views c.as_slice.result.now ≡ chunk_rest seen = ap field_views c.as_slice.ensures.value ∙ c.in_ok-fields.ensures.stands in
    memory_only (fields_have_shape 32 (chunk_rest seen)) c.put_rest.result (chunk_fits_alone (record seen { file_path = None }))
    (subst (λ (fs : Fields). RefusedOnly (IsShapeless (fields_have_shape 32 fs)) c.put_rest.result) is c.put_rest.ensures.which)
