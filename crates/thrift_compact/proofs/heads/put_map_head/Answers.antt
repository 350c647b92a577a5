use Rattle.thrift_compact.proofs.Spelled.{map_head_then}
use Rattle.thrift_compact.proofs.heads.put_map_head.Goals as goal

pub returns-clause-stands : goal.returns-clause-stands
returns-clause-stands c =
    map_head_then c.args.keys c.args.values c.args.size c.args.out.now.items c.put_size.new.out.items c.push.new.self.items c.requires.keys c.requires.values c.requires.not_empty c.in_ok-put_size.ensures.stands c.in_ok-push.ensures.items
