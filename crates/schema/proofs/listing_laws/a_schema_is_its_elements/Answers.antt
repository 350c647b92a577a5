use Rattle.schema.proofs.Again.{a_schema_is_its_elements}
use Rattle.schema.proofs.listing_laws.a_schema_is_its_elements.Goals as goal

pub returns : goal.returns
returns c = a_schema_is_its_elements
