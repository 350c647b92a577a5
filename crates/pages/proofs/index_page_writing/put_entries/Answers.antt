use Rattle.std.proofs.Common.{◌≡◌, ◌+◌, ◌-◌, ◌*◌, ◌∙◌, [], length, map, arith, sym}
use Rattle.std.proofs.lemmas.List.{length-map}
use Rattle.std.proofs.lemmas.Result.{on_ok_weaker}
use Rattle.schema.specs.Borrowed.{entry_ref_view}
use Rattle.schema.specs.Views.{leaf_view}
use Rattle.dictionary.specs.IndexPages.{IsWrittenIndexPage}
use Rattle.pages.specs.declared.encoding.Encoding.TheVariants.{RleDictionary}
use Rattle.pages.specs.declared.header_writing.DataPageHead.{DataPageHead}
use Rattle.pages.specs.Page.{values}
use Rattle.pages.specs.Writing.{index_weight}
use Rattle.pages.specs.WrittenValues.{AreIndexesIn}
use Rattle.pages.proofs.WrittenParts.{page_size}
use Rattle.pages.proofs.WrittenPages.{entries_written, parts_are, fills, nulls_and_values}
use Rattle.pages.proofs.index_page_writing.put_entries.Goals as goal

pub returns-clause-written : goal.returns-clause-written
returns-clause-written c =
    let leaf = leaf_view c.args.leaf.now in
    let es = map entry_ref_view c.args.entries.now in
    let is = c.args.indexes.now in
    let size = c.args.size in
    let mid = c.put_sections.new.scratch.items in
    let sections = c.in_ok-sections.ensures.stands in
    let p = c.in_ok-encode_indexes.ensures.written in
    let entries : length c.args.entries.now ≡ length es = sym (length-map c.args.entries.now entry_ref_view) in
    let count = c.requires.count in
    let parts = parts_are leaf es mid c.as_slice.result.now p.text c.in_ok-sections.sections sections (c.as_slice.ensures.value ∙ p.joined) in
    on_ok_weaker c.put_data_page.result
    (entries_written leaf (record { version = c.args.version; encoding = RleDictionary; entries = length c.args.entries.now; nulls = length c.args.entries.now - length is; rows = c.count_rows.result }) es (AreIndexesIn size is) (index_weight (length es)) sections.repetition_bytes sections.definition_bytes p.text c.args.out.now.items c.put_data_page.new.out.items
    entries (omega (arith, entries, count, nulls_and_values es)) c.count_rows.ensures.rows sections.first sections.second (fills (λ bytes. IsWrittenIndexPage size bytes (length is) is) (81 + 9 * length is) mid c.encode_indexes.new.out.items p) (omega (arith, sections.first_short, sections.second_short, p.short, count, entries, c.requires.few)))
    (c.put_data_page.ensures.stands sections.repetition_bytes sections.definition_bytes p.text parts)

pub returns-clause-indexes : goal.returns-clause-indexes
returns-clause-indexes c =
    on_ok_weaker c.put_data_page.result (λ p. (c.requires.count, (c.in_ok-encode_indexes.ensures.stands.stands []).within)) (returns-clause-written c)

pub returns-clause-size : goal.returns-clause-size
returns-clause-size c =
    let leaf = leaf_view c.args.leaf.now in
    let es = map entry_ref_view c.args.entries.now in
    let sections = c.in_ok-sections.ensures.stands in
    let p = c.in_ok-encode_indexes.ensures.written in
    let parts = parts_are leaf es c.put_sections.new.scratch.items c.as_slice.result.now p.text c.in_ok-sections.sections sections (c.as_slice.ensures.value ∙ p.joined) in
    let head : DataPageHead = record { version = c.args.version; encoding = RleDictionary; entries = length c.args.entries.now; nulls = length c.args.entries.now - length c.args.indexes.now; rows = c.count_rows.result } in
    on_ok_weaker c.put_data_page.result (page_size leaf head sections.repetition_bytes sections.definition_bytes p.text c.args.out.now.items c.put_data_page.new.out.items)
    (c.put_data_page.ensures.stands sections.repetition_bytes sections.definition_bytes p.text parts)
