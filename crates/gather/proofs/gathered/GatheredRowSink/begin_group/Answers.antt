use Rattle.std.proofs.lemmas.Result.{on_ok_weaker}
use Rattle.assemble.specs.Sinks.{group_begins}
use Rattle.gather.specs.GatheredRows.{columns_of}
use Rattle.gather.proofs.Gathering.{gathered_more, same_base}
use Rattle.gather.proofs.gathered.GatheredRowSink.begin_group.Goals as goal

pub returns : goal.returns
returns c =
    let old = c.args.self.now in
    let same = same_base old c.begin_group.new.self c.begin_group.ensures.same_parts in
    record { shown = on_ok_weaker c.begin_group.result (λ adds. gathered_more old _ group_begins same (adds (columns_of old))) c.begin_group.ensures.shown; base_stays = same }
