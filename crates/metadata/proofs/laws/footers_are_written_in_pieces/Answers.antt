use Rattle.metadata.proofs.BegunFooters.{footers_grow, groups_grow, chunks_follow}
use Rattle.metadata.proofs.laws.footers_are_written_in_pieces.Goals as goal

pub returns-clause-footers : goal.returns-clause-footers
returns-clause-footers c = footers_grow c.structs_are_written_in_pieces.ensures.grows c.structs_of_the_shape_nest.ensures

pub returns-clause-groups : goal.returns-clause-groups
returns-clause-groups c = groups_grow c.structs_are_written_in_pieces.ensures.grows c.structs_of_the_shape_nest.ensures

pub returns-clause-chunks : goal.returns-clause-chunks
returns-clause-chunks c = chunks_follow c.structs_are_written_in_pieces.ensures.follows
