use Rattle.places.proofs.HostKnown.{unknown}
use Rattle.places.proofs.host_places.HostPlacesPlaces.bytes.Goals as goal

pub returns-clause-refused : goal.returns-clause-refused
returns-clause-refused g c = unknown c.bytes_of.result c.bytes_of.ensures.which
