use Rattle.pages.proofs.Framed.{dictionary_is_not_read, entries_stand_alone, no_page_of_no_bytes}
use Rattle.pages.proofs.laws.pages_of_a_dictionary.Goals as goal

pub returns-clause-unread : goal.returns-clause-unread
returns-clause-unread c = dictionary_is_not_read

pub returns-clause-apart : goal.returns-clause-apart
returns-clause-apart c = entries_stand_alone c.one_page_header.ensures

pub returns-clause-some_bytes : goal.returns-clause-some_bytes
returns-clause-some_bytes c = no_page_of_no_bytes
