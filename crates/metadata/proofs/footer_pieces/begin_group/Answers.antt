use Rattle.std.proofs.Common.{[], refl}
use Rattle.thrift_compact.proofs.Appending.{ok_then}
use Rattle.metadata.proofs.footer_pieces.begin_group.Goals as goal

pub returns-clause-stands : goal.returns-clause-stands
returns-clause-stands c = ok_then c.put_list_start.result (λ start. start [] c.args.out.now.items refl (c.structs_are_written_in_pieces.ensures.begins c.args.out.now.items)) c.put_list_start.ensures.stands
