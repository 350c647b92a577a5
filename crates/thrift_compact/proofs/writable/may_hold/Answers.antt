use Rattle.thrift_compact.specs.View.{view}
use Rattle.thrift_compact.proofs.Passed.{told}
use Rattle.thrift_compact.proofs.writable.may_hold.Goals as goal

pub returns : goal.returns
returns c = told c.is_element.result c.args.code (view c.args.node.now) c.is_element.ensures
