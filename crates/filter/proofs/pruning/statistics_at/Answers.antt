use Rattle.filter.proofs.Keys.{count_before}
use Rattle.filter.proofs.pruning.statistics_at.Goals as goal

pub returns : goal.returns
returns c = rw (c.stats_at.ensures, c.as_slice.ensures.value, c.saturating_sub-place.ensures, c.keys_before.ensures, ← count_before c.args.keys.now c.args.term.now.first.place)
