use Rattle.places.proofs.HostKnown.{any_ends, unknown_ends}
use Rattle.places.proofs.host_places.HostPlacesPlaces.ends.Goals as goal

pub returns-clause-read : goal.returns-clause-read
returns-clause-read g c = any_ends c.ends_of.result

pub returns-clause-refused : goal.returns-clause-refused
returns-clause-refused g c = unknown_ends c.ends_of.result c.ends_of.ensures.which
