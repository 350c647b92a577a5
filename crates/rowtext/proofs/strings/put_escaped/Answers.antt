use Rattle.std.proofs.Common.{◌++◌}
use Rattle.json.specs.Print.{escape}
use Rattle.rowtext.proofs.EscapedBytes.{escapes_end, escapes_more}
use Rattle.rowtext.proofs.strings.put_escaped.Goals as goal

pub returns-in_default : goal.returns-in_default
returns-in_default c =
    escapes_end c.rest.out.items c.rest.rest.now c.extend_from_slice.new.self.items (c.args.out.now.items ++ escape c.args.bytes.now) c.plain_front-count.result c.plain_front-count.ensures.within c.plain_front-count.ensures.plain c.in_ok-extend_from_slice.ensures.items c.rest.invariant c.in_default.ensures.cases

pub rest-preserved : goal.rest-preserved
rest-preserved c =
    escapes_more c.rest.out.items c.rest.rest.now c.extend_from_slice.new.self.items (c.args.out.now.items ++ escape c.args.bytes.now) c.plain_front-count.result c.plain_front-count.ensures.within c.plain_front-count.ensures.plain c.in_ok-extend_from_slice.ensures.items c.rest.invariant c.put_byte.new.out.items c.in-Some.later.now c.in-Some.byte.now c.in-Some.ensures.cases.0 c.in_ok-put_byte.ensures
