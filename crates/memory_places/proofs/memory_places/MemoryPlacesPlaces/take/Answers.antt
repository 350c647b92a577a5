use Rattle.memory_places.proofs.Known.{stays_but}
use Rattle.memory_places.proofs.memory_places.MemoryPlacesPlaces.take.Goals as goal

pub returns-clause-others : goal.returns-clause-others
returns-clause-others c = stays_but c.args.self.now.layout.now c.args.self.now.disks c.take.new.self c.args.folder.now c.take.ensures.others
