use Rattle.std.proofs.Common.{ℕ, [], subst, ◌∙◌, to_z, of_z}
use Rattle.std.specs.Prelude.{ℤ}
use Rattle.std.specs.Int.{w16}
use Rattle.std.proofs.lemmas.Int.{to_z-of_z}
use Rattle.bits.specs.Codec.{Appends}
use Rattle.thrift_compact.specs.Compact.{IsFieldHead}
use Rattle.thrift_compact.specs.Length.{size_field_head}
use Rattle.thrift_compact.specs.Piecewise.{BeginsList}
use Rattle.thrift_compact.proofs.Appending.{ok_then}
use Rattle.thrift_compact.proofs.WrittenPieces.{list_begun}
use Rattle.thrift_compact.proofs.piecewise.put_list_start.Goals as goal

pub returns-clause-stands : goal.returns-clause-stands
returns-clause-stands c =
    let id = to_z-of_z w16 c.args.id c.ranges.id in
    let old = c.args.out.now.items in
    let mid = c.put_field_head.new.out.items in
    let head = subst (λ (z : ℤ). Appends (λ bytes. IsFieldHead (to_z w16 (of_z w16 c.args.previous)) bytes z 9) (size_field_head (to_z w16 (of_z w16 c.args.previous)) z) old mid) id c.in_ok-put_field_head.ensures.stands in
    ok_then c.put_list_head.result
    (λ size fs start same begun. subst (λ (k : ℕ). BeginsList fs c.args.id k c.args.size [] start c.put_list_head.new.out.items) c.code.ensures (list_begun fs c.args.id c.code.result c.args.size start old mid c.put_list_head.new.out.items begun
    (subst (λ (z : ℤ). Appends (λ bytes. IsFieldHead z bytes c.args.id 9) (size_field_head z c.args.id) old mid) (to_z-of_z w16 c.args.previous c.ranges.previous ∙ same) head) size)) c.put_list_head.ensures.stands
