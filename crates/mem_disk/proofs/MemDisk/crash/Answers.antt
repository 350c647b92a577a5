use Rattle.mem_disk.proofs.MemDisk.crash.Goals as goal

pub returns-clause-image : goal.returns-clause-image
returns-clause-image c = c.in_ok-left.ensures.image 0 0 0 0
