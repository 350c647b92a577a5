use Rattle.footer.proofs.OneFirst.{one_first, of_all, first_exist, first_enough}
use Rattle.footer.proofs.laws.one_list_of_first_rows.Goals as goal

pub returns-clause-one : goal.returns-clause-one
returns-clause-one c = one_first c.one_footer.ensures c.a_list_means_one_schema.ensures c.one_meaning.ensures.group

pub returns-clause-of_the_file : goal.returns-clause-of_the_file
returns-clause-of_the_file c = of_all c.one_footer.ensures c.a_list_means_one_schema.ensures c.one_meaning.ensures.group

pub returns-clause-exist : goal.returns-clause-exist
returns-clause-exist c = first_exist

pub returns-clause-enough : goal.returns-clause-enough
returns-clause-enough c = first_enough
