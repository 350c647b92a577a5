use Rattle.thrift_compact.proofs.Spelled.{binary_then}
use Rattle.thrift_compact.proofs.numbers.put_binary.Goals as goal

pub returns-clause-stands : goal.returns-clause-stands
returns-clause-stands c = binary_then c.args.text.now c.args.out.now.items c.put_size.new.out.items c.extend_from_slice.new.self.items c.in_ok-put_size.ensures.stands c.in_ok-extend_from_slice.ensures.items
