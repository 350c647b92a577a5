use Rattle.places.proofs.HostKnown.{unknown}
use Rattle.places.proofs.host_places.HostPlacesPlaces.wait_out.Goals as goal

pub returns-clause-refused : goal.returns-clause-refused
returns-clause-refused g c = unknown c.waited_out.result c.waited_out.ensures.which
