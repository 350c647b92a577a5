use Rattle.recovery.proofs.Sweeping.{read_sweeps}
use Rattle.manifest.specs.Groups.{root_of}
use Rattle.table_openings.proofs.reopening.read_again.Goals as goal

pub returns-in-Ok-clause-removes : goal.returns-in-Ok-clause-removes
returns-in-Ok-clause-removes g c = λ honest.
    let all = read_sweeps (root_of c.in-Ok.manifest) (g.D.Disk.state c.args.vault.now.disk) (g.D.Disk.state c.reopen_to_read.new.vault.disk) (c.reopen_to_read.ensures.unchanged honest) in
    record { moments = all.moments; names = all.names; files = all.seen }

pub returns-in-Ok-clause-clear : goal.returns-in-Ok-clause-clear
returns-in-Ok-clause-clear g c = λ honest. (c.reopen_to_read.ensures.unchanged honest).clear

pub returns-in-Err-clause-clear : goal.returns-in-Err-clause-clear
returns-in-Err-clause-clear g c = λ honest. (c.reopen_to_read.ensures.unchanged honest).clear
