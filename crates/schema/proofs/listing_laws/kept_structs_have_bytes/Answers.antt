use Rattle.schema.proofs.Kept.{kept_structs_have_bytes}
use Rattle.schema.proofs.listing_laws.kept_structs_have_bytes.Goals as goal

pub returns : goal.returns
returns c = kept_structs_have_bytes
