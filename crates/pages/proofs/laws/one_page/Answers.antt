use Rattle.pages.proofs.Framed.{dictionary_is_not_read, entries_stand_alone}
use Rattle.pages.proofs.OneList.{ListsAreOne}
use Rattle.pages.proofs.OneBody.{one_page}
use Rattle.pages.proofs.OneChunk.{one_chunk}
use Rattle.pages.proofs.laws.one_page.Goals as goal

pub returns-clause-page : goal.returns-clause-page
returns-clause-page c =
    let laws : ListsAreOne = record {
      plain = c.one_list.ensures;
      split = c.one_split_list.ensures;
      hybrid = c.one_list-2.ensures;
      indexed = c.one_list_of_values.ensures;
      deltas = c.one_list-3.ensures;
      lengths = c.one_byte_list.ensures;
      prefixes = c.one_prefixed_list.ensures;
    } in
    one_page laws c.one_page_header.ensures

pub returns-clause-chunk : goal.returns-clause-chunk
returns-clause-chunk c =
    let laws : ListsAreOne = record {
      plain = c.one_list.ensures;
      split = c.one_split_list.ensures;
      hybrid = c.one_list-2.ensures;
      indexed = c.one_list_of_values.ensures;
      deltas = c.one_list-3.ensures;
      lengths = c.one_byte_list.ensures;
      prefixes = c.one_prefixed_list.ensures;
    } in
    one_chunk (one_page laws c.one_page_header.ensures) dictionary_is_not_read (entries_stand_alone c.one_page_header.ensures)
