use Rattle.places.proofs.HostKnown.{unknown}
use Rattle.places.proofs.host_places.HostPlacesPlaces.check_root_name.Goals as goal

pub returns-clause-refused : goal.returns-clause-refused
returns-clause-refused g c = unknown c.root_is_free.result c.root_is_free.ensures.which
