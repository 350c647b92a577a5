use Rattle.std.proofs.lemmas.Result.{on_ok_weaker}
use Rattle.schema.specs.Borrowed.{value_ref_view}
use Rattle.assemble.specs.Sinks.{single}
use Rattle.gather.proofs.Gathering.{gathered_more, same_base}
use Rattle.gather.proofs.gathered.GatheredRowSink.value.Goals as goal

pub returns : goal.returns
returns c =
    let old = c.args.self.now in
    let same = same_base old c.value.new.self c.value.ensures.same_parts in
    record { shown = on_ok_weaker c.value.result (λ adds. gathered_more old _ (single (value_ref_view c.args.value)) same adds) c.value.ensures.shown; base_stays = same }
