use Rattle.footer.proofs.OneMeaning.{one_list}
use Rattle.footer.proofs.laws.one_list_of_rows.Goals as goal

pub returns : goal.returns
returns c = one_list c.one_footer.ensures c.a_list_means_one_schema.ensures c.one_meaning.ensures.group
