use Rattle.memory_places.proofs.Known.{stays_but}
use Rattle.memory_places.proofs.memory_places.MemoryPlacesPlaces.make_folder.Goals as goal

pub returns-clause-others : goal.returns-clause-others
returns-clause-others c = stays_but c.args.self.now.layout.now c.args.self.now.disks c.make.new.self c.args.folder.now c.make.ensures.others
