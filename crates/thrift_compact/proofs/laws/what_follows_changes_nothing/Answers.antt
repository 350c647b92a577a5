use Rattle.thrift_compact.proofs.Stays.{thrift_stays, none_where_cut}
use Rattle.thrift_compact.proofs.laws.what_follows_changes_nothing.Goals as goal

pub returns-clause-stays : goal.returns-clause-stays
returns-clause-stays c = thrift_stays

pub returns-clause-cut : goal.returns-clause-cut
returns-clause-cut c = none_where_cut
