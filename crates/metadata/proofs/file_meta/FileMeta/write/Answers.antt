use Rattle.std.proofs.Common.{ℕ, List, [], ◌++◌, length, subst}
use Rattle.std.specs.Prelude.{OnOk}
use Rattle.lists.proofs.Booleans.{not_true_and_false as not_shapeless}
use Rattle.bits.specs.Refusals.{OnFault}
use Rattle.thrift_compact.specs.Tree.{Fields}
use Rattle.thrift_compact.specs.Compact.{IsThrift}
use Rattle.metadata.specs.FromTree.{file_meta}
use Rattle.metadata.specs.ToTree.{file_meta_fields}
use Rattle.metadata.specs.Views.{file_meta_view}
use Rattle.metadata.specs.Answers.{StandsFor}
use Rattle.metadata.specs.Weight.{footer_weight}
use Rattle.metadata.proofs.Again.{file_meta_again}
use Rattle.metadata.proofs.Own.{footer_has_bytes}
use Rattle.metadata.proofs.Weights.{footer_at_most}
use Rattle.metadata.proofs.Writing.{AppendsStruct, stands_again, only_where, within_weight}
use Rattle.bits.specs.Refusals.{RefusedOnly}
use Rattle.thrift_compact.specs.Shapes.{fields_have_shape, IsShapeless}
use Rattle.metadata.specs.Kept.{EachKeepsWritten}
use Rattle.metadata.proofs.Shaped.{each_keeps_shape, footer_fits, refused_where}
use Rattle.metadata.proofs.file_meta.FileMeta.write.Goals as goal

pub returns-clause-stands : goal.returns-clause-stands
returns-clause-stands c =
    subst (λ (fs : Fields). OnOk c.write_struct.result (AppendsStruct fs c.args.out.now.items c.write_struct.new.out.items)) c.in_ok-tree.ensures.stands c.write_struct.ensures.stands

pub returns-clause-read_again : goal.returns-clause-read_again
returns-clause-read_again c =
    let seen = file_meta_view c.args.self.now in
    stands_again file_meta (file_meta_fields seen) seen c.args.out.now.items c.write_struct.new.out.items c.write_struct.result (file_meta_again seen)
    (subst (λ (fs : Fields). OnOk c.write_struct.result (AppendsStruct fs c.args.out.now.items c.write_struct.new.out.items)) c.in_ok-tree.ensures.stands c.write_struct.ensures.stands)

pub returns-clause-weight : goal.returns-clause-weight
returns-clause-weight c = λ keys own.
    let seen = file_meta_view c.args.self.now in
    within_weight (file_meta_fields seen) (footer_weight keys seen) c.args.out.now.items c.write_struct.new.out.items c.write_struct.result (footer_at_most keys seen own)
    (subst (λ (fs : Fields). OnOk c.write_struct.result (AppendsStruct fs c.args.out.now.items c.write_struct.new.out.items)) c.in_ok-tree.ensures.stands c.write_struct.ensures.stands)

-- bytes that are this record give bytes of its own struct, and there are none
pub returns-clause-only : goal.returns-clause-only
returns-clause-only c =
    let seen = file_meta_view c.args.self.now in
    only_where ((bytes : List ℕ) (used : ℕ) → IsThrift bytes (file_meta_fields seen) used → ⊥) ((bytes : List ℕ) (used : ℕ) → StandsFor file_meta bytes seen used → ⊥) c.write_struct.result
    (λ nothing bytes used stands. let own = footer_has_bytes bytes seen used stands in nothing (own.0 ++ []) (length own.0) own.1)
    (subst (λ (fs : Fields). OnFault c.write_struct.result ((bytes : List ℕ) (used : ℕ) → IsThrift bytes fs used → ⊥)) c.in_ok-tree.ensures.stands c.write_struct.ensures.only)

-- where each kept struct can be written, it has the shape, and so has the footer
pub returns-clause-which : goal.returns-clause-which
returns-clause-which c =
    let seen = file_meta_view c.args.self.now in
    let b = fields_have_shape 32 (file_meta_fields seen) in
    refused_where b (EachKeepsWritten seen → ⊥) c.write_struct.result (λ shapeless kept. not_shapeless b (footer_fits seen (each_keeps_shape c.structs_with_bytes_have_the_shape.ensures seen.schema kept)) shapeless)
    (subst (λ (fs : Fields). RefusedOnly (IsShapeless (fields_have_shape 32 fs)) c.write_struct.result) c.in_ok-tree.ensures.stands c.write_struct.ensures.which)
