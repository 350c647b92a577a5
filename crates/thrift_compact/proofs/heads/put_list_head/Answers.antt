use Rattle.thrift_compact.proofs.Appending.{ok_then}
use Rattle.thrift_compact.proofs.Spelled.{list_head_then}
use Rattle.thrift_compact.proofs.heads.put_list_head.Goals as goal

pub returns-clause-stands : goal.returns-clause-stands
returns-clause-stands c =
    ok_then c.put_size.result (list_head_then c.args.code c.args.size c.args.out.now.items c.push-2.new.self.items c.put_size.new.out.items c.requires c.if-size-le14.false c.in_ok-push-2.ensures.items) c.put_size.ensures.stands
