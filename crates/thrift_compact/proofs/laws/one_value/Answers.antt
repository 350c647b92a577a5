use Rattle.thrift_compact.proofs.One.{one_of_type}
use Rattle.thrift_compact.proofs.Stays.{of_type_stays}
use Rattle.thrift_compact.proofs.laws.one_value.Goals as goal

pub returns-clause-one : goal.returns-clause-one
returns-clause-one c = one_of_type

pub returns-clause-stays : goal.returns-clause-stays
returns-clause-stays c = of_type_stays
