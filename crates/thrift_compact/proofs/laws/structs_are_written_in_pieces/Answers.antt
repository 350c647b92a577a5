use Rattle.thrift_compact.proofs.WrittenPieces.{begins_empty, list_ended, list_grows, rests_follow}
use Rattle.thrift_compact.proofs.laws.structs_are_written_in_pieces.Goals as goal

pub returns-clause-begins : goal.returns-clause-begins
returns-clause-begins c = begins_empty

pub returns-clause-ends : goal.returns-clause-ends
returns-clause-ends c = list_ended

pub returns-clause-grows : goal.returns-clause-grows
returns-clause-grows c = list_grows

pub returns-clause-follows : goal.returns-clause-follows
returns-clause-follows c = rests_follow
