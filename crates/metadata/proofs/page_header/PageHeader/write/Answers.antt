use Rattle.std.proofs.Common.{◌≡◌, ℕ, List, [], ◌++◌, length, true, subst, rules}
use Rattle.std.specs.Prelude.{OnOk}
use Rattle.bits.specs.Refusals.{OnFault}
use Rattle.thrift_compact.specs.Tree.{Fields}
use Rattle.thrift_compact.specs.Compact.{IsThrift}
use Rattle.metadata.specs.FromTree.{page_header, has_own_header}
use Rattle.metadata.specs.ToTree.{page_header_fields}
use Rattle.metadata.specs.Views.{page_header_view}
use Rattle.metadata.specs.Answers.{StandsFor}
use Rattle.metadata.proofs.Again.{page_header_again}
use Rattle.metadata.proofs.Own.{header_has_bytes}
use Rattle.metadata.proofs.Writing.{AppendsStruct, stands_again, only_where}
use Rattle.std.proofs.Common.{false}
use Rattle.lists.proofs.Booleans.{not_true_and_false as not_shapeless}
use Rattle.bits.specs.Refusals.{RefusedOnly}
use Rattle.thrift_compact.specs.Shapes.{fields_have_shape, IsShapeless}
use Rattle.metadata.proofs.Shaped.{header_fits, refused_where}
use Rattle.metadata.proofs.page_header.PageHeader.write.Goals as goal

pub returns-clause-stands : goal.returns-clause-stands
returns-clause-stands c =
    subst (λ (fs : Fields). OnOk c.write_struct.result (AppendsStruct fs c.args.out.now.items c.write_struct.new.out.items)) c.in_ok-tree.ensures.stands c.write_struct.ensures.stands

pub returns-clause-read_again : goal.returns-clause-read_again
returns-clause-read_again c =
    let seen = page_header_view c.args.self.now in
    let own : has_own_header seen ≡ true = search (rules, c.in_ok-tree.ensures.own) in
    stands_again page_header (page_header_fields seen) seen c.args.out.now.items c.write_struct.new.out.items c.write_struct.result (page_header_again seen own)
    (subst (λ (fs : Fields). OnOk c.write_struct.result (AppendsStruct fs c.args.out.now.items c.write_struct.new.out.items)) c.in_ok-tree.ensures.stands c.write_struct.ensures.stands)

-- bytes that are this record give bytes of its own struct, and there are none
pub returns-clause-only : goal.returns-clause-only
returns-clause-only c =
    let seen = page_header_view c.args.self.now in
    only_where ((bytes : List ℕ) (used : ℕ) → IsThrift bytes (page_header_fields seen) used → ⊥) ((bytes : List ℕ) (used : ℕ) → StandsFor page_header bytes seen used → ⊥) c.write_struct.result
    (λ nothing bytes used stands. let own = header_has_bytes bytes seen used stands in nothing (own.0 ++ []) (length own.0) own.1)
    (subst (λ (fs : Fields). OnFault c.write_struct.result ((bytes : List ℕ) (used : ℕ) → IsThrift bytes fs used → ⊥)) c.in_ok-tree.ensures.stands c.write_struct.ensures.only)

-- the struct of a header has the shape
pub returns-clause-which : goal.returns-clause-which
returns-clause-which c =
    let seen = page_header_view c.args.self.now in
    let b = fields_have_shape 32 (page_header_fields seen) in
    refused_where b (has_own_header seen ≡ false) c.write_struct.result (λ shapeless. absurd (not_shapeless b (header_fits seen) shapeless))
    (subst (λ (fs : Fields). RefusedOnly (IsShapeless (fields_have_shape 32 fs)) c.write_struct.result) c.in_ok-tree.ensures.stands c.write_struct.ensures.which)
