use Rattle.places.proofs.HostKnown.{unknown_still}
use Rattle.places.proofs.host_places.HostPlacesPlaces.make_folder.Goals as goal

pub returns-clause-refused : goal.returns-clause-refused
returns-clause-refused g c = unknown_still _ c.make_folder.result c.make_folder.ensures.which
