use Rattle.thrift_compact.proofs.ShapePasses.{shapes_nest}
use Rattle.thrift_compact.proofs.laws.structs_of_the_shape_nest.Goals as goal

pub returns : goal.returns
returns c = shapes_nest
