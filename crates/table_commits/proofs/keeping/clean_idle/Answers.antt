use Rattle.table_commits.proofs.NothingOpen.{cleaned_idle}
use Rattle.table_commits.proofs.keeping.clean_idle.Goals as goal

pub returns-clause-clears : goal.returns-clause-clears
returns-clause-clears g c honest s shows is_open =
    cleaned_idle g.D.Disk.state c.args.store.now s shows is_open c.requires.jobs c.requires.cursors c.clean-fine.new.vault c.clean-fine.result
    (c.clean-fine.ensures.removes honest) (c.clean-fine.ensures.rooted honest) (c.clean-fine.ensures.clear honest) (c.clean-fine.ensures.clean honest)
