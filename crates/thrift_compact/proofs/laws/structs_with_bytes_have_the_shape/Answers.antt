use Rattle.thrift_compact.proofs.ShapePasses.{structs_with_bytes_have_the_shape}
use Rattle.thrift_compact.proofs.laws.structs_with_bytes_have_the_shape.Goals as goal

pub returns : goal.returns
returns c = structs_with_bytes_have_the_shape
