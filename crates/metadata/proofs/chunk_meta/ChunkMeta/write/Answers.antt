use Rattle.std.proofs.Common.{subst}
use Rattle.std.specs.Prelude.{OnOk}
use Rattle.bits.specs.Refusals.{RefusedOnly}
use Rattle.thrift_compact.specs.Tree.{Fields}
use Rattle.thrift_compact.specs.Shapes.{fields_have_shape, IsShapeless}
use Rattle.metadata.specs.FromTree.{chunk_meta}
use Rattle.metadata.specs.ToTree.{chunk_meta_fields}
use Rattle.metadata.specs.Views.{chunk_meta_view}
use Rattle.metadata.proofs.Again.{chunk_meta_again}
use Rattle.metadata.proofs.Writing.{AppendsStruct, stands_again}
use Rattle.metadata.proofs.Shaped.{chunk_fits_alone, memory_only}
use Rattle.metadata.proofs.chunk_meta.ChunkMeta.write.Goals as goal

pub returns-clause-stands : goal.returns-clause-stands
returns-clause-stands c =
    subst (λ (fs : Fields). OnOk c.write_struct.result (AppendsStruct fs c.args.out.now.items c.write_struct.new.out.items)) c.in_ok-tree.ensures.stands c.write_struct.ensures.stands

pub returns-clause-read_again : goal.returns-clause-read_again
returns-clause-read_again c =
    let seen = chunk_meta_view c.args.self.now in
    stands_again chunk_meta (chunk_meta_fields seen) seen c.args.out.now.items c.write_struct.new.out.items c.write_struct.result (chunk_meta_again seen)
    (subst (λ (fs : Fields). OnOk c.write_struct.result (AppendsStruct fs c.args.out.now.items c.write_struct.new.out.items)) c.in_ok-tree.ensures.stands c.write_struct.ensures.stands)

pub returns-clause-which : goal.returns-clause-which
returns-clause-which c =
    let seen = chunk_meta_view c.args.self.now in
    memory_only (fields_have_shape 32 (chunk_meta_fields seen)) c.write_struct.result (chunk_fits_alone seen)
    (subst (λ (fs : Fields). RefusedOnly (IsShapeless (fields_have_shape 32 fs)) c.write_struct.result) c.in_ok-tree.ensures.stands c.write_struct.ensures.which)
