use Rattle.std.proofs.Common.{sym}
use Rattle.mem_disk.proofs.Effects.{file_within}
use Rattle.mem_disk.proofs.held.Held.content.Goals as goal

pub bytes_of-requires : goal.bytes_of-requires
bytes_of-requires c = file_within _ _ c.args.self.now.kept.sound c.args.path.now c.in-File.node (sym c.in-File.ensures)
