use Rattle.table_openings.proofs.PathsApart.{paths_are_apart, paths_are_apart_both_ways}
use Rattle.table_openings.proofs.laws.paths_are_apart.Goals as goal

pub returns : goal.returns
returns c = record { apart = paths_are_apart; both_ways = paths_are_apart_both_ways }
