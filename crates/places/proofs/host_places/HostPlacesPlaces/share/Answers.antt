use Rattle.places.proofs.HostKnown.{unknown}
use Rattle.places.proofs.host_places.HostPlacesPlaces.share.Goals as goal

pub returns-clause-refused : goal.returns-clause-refused
returns-clause-refused g c = unknown c.shared.result c.shared.ensures.which
