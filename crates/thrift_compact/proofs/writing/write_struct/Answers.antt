use Rattle.std.proofs.Common.{rules, ◌≡◌, subst}
use Rattle.std.specs.Prelude.{◌+◌, length, OnOk}
use Rattle.bits.specs.Codec.{Appends}
use Rattle.thrift_compact.specs.View.{field_views, tree_view}
use Rattle.thrift_compact.specs.Length.{size_struct}
use Rattle.thrift_compact.specs.Compact.{IsThrift}
use Rattle.thrift_compact.proofs.Appending.{ok_then}
use Rattle.thrift_compact.proofs.Least.{exact}
use Rattle.thrift_compact.proofs.Writes as writes
use Rattle.thrift_compact.proofs.writing.write_struct.Goals as goal

pub returns-else-is_err-clause-stands : goal.returns-else-is_err-clause-stands
returns-else-is_err-clause-stands c =
    let e : field_views c.deref.result.now ≡ tree_view c.args.tree.now = search rules in
    subst (λ fs. OnOk c.put_fields-done.result (Appends (λ bytes used. IsThrift bytes fs used) (size_struct fs) c.args.out.now.items c.put_fields-done.new.out.items)) e
    (ok_then c.put_fields-done.result (writes.thrift_stands (field_views c.deref.result.now) c.args.out.now.items c.put_fields-done.new.out.items) c.put_fields-done.ensures.stands)

pub returns-else-is_err-clause-exact : goal.returns-else-is_err-clause-exact
returns-else-is_err-clause-exact c =
    let fs = field_views c.deref.result.now in
    let old = c.args.out.now.items in
    let new = c.put_fields-done.new.out.items in
    let e : fs ≡ tree_view c.args.tree.now = search rules in
    subst (λ gs. OnOk c.put_fields-done.result (length new ≡ length old + size_struct gs)) e
    (ok_then c.put_fields-done.result (λ p. exact fs old new (writes.thrift_stands fs old new p)) c.put_fields-done.ensures.stands)
