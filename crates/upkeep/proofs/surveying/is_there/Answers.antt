use Rattle.upkeep.proofs.surveying.is_there.Goals as goal

pub returns : goal.returns
returns g c =
    let e = c.get_range-read.ensures in
    record { effect = record { unchanged = e.unchanged; reads = e.reads.no_more; counts = e.counts.later; honest = e.honest } }
