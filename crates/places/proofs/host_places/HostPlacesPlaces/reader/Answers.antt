use Rattle.places.proofs.HostKnown.{unknown}
use Rattle.places.proofs.host_places.HostPlacesPlaces.reader.Goals as goal

pub returns-clause-refused : goal.returns-clause-refused
returns-clause-refused g c = unknown c.open_reader.result c.open_reader.ensures.which
