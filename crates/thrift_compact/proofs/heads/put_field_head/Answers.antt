use Rattle.std.proofs.Common.{subst}
use Rattle.std.specs.Prelude.{OnOk, false}
use Rattle.bits.specs.Codec.{Appends}
use Rattle.thrift_compact.specs.Length.{size_i64}
use Rattle.thrift_compact.specs.inner.Writing.{IsShortestSigned}
use Rattle.thrift_compact.proofs.Appending.{ok_then}
use Rattle.thrift_compact.proofs.Spelled.{long_head}
use Rattle.thrift_compact.proofs.Steps.{wide_is, same_step}
use Rattle.thrift_compact.proofs.heads.put_field_head.Goals as goal

pub returns-clause-stands : goal.returns-clause-stands
returns-clause-stands c =
    let e = wide_is c.args.id c.from.result c.ranges.id c.from.ensures in
    ok_then c.put_signed.result
    (long_head c.args.previous c.args.id c.args.code c.args.out.now.items c.push-2.new.self.items c.put_signed.new.out.items c.requires.low c.requires.high c.ranges.id (same_step c.args.previous c.args.id false c.ranges.previous c.ranges.id c.in_default.ensures) c.in_ok-push-2.ensures.items)
    (subst (λ z. OnOk c.put_signed.result (Appends (IsShortestSigned z) (size_i64 z) c.push-2.new.self.items c.put_signed.new.out.items)) e c.put_signed.ensures.stands)
