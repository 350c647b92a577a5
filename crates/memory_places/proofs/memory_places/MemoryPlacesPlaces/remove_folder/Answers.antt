use Rattle.memory_places.proofs.Known.{stays_but}
use Rattle.memory_places.proofs.memory_places.MemoryPlacesPlaces.remove_folder.Goals as goal

pub returns : goal.returns
returns c = record { others = stays_but c.args.self.now.layout.now c.args.self.now.disks c.remove_bare.new.self c.args.folder.now c.remove_bare.ensures }
