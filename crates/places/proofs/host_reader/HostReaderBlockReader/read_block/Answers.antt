use Rattle.places.proofs.BlocksPut.{unknown_block}
use Rattle.places.proofs.host_reader.HostReaderBlockReader.read_block.Goals as goal

pub returns-in-Ok-clause-read : goal.returns-in-Ok-clause-read
returns-in-Ok-clause-read g c = unknown_block c.args.buffer.now.items _ c.in-Ok.count c.in-Ok.ensures.put
