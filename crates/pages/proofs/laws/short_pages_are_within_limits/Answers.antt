use Rattle.pages.proofs.ShortValues.{short_pages}
use Rattle.pages.proofs.laws.short_pages_are_within_limits.Goals as goal

pub returns : goal.returns
returns c = short_pages c.one_list.ensures c.one_list-2.ensures c.one_page_header.ensures
