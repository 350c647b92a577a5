use Rattle.places.proofs.HostKnown.{unknown_disk}
use Rattle.places.proofs.host_places.HostPlacesPlaces.take.Goals as goal

pub returns-clause-refused : goal.returns-clause-refused
returns-clause-refused g c = unknown_disk _ c.disk_of.result c.disk_of.ensures.memory
