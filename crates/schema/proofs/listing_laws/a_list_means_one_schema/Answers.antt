use Rattle.schema.proofs.OneSchema.{lists_mean_one_schema}
use Rattle.schema.proofs.listing_laws.a_list_means_one_schema.Goals as goal

pub returns : goal.returns
returns c = lists_mean_one_schema
