use Rattle.std.proofs.Common.{◌≡◌, ◌-◌, ◌∙◌, List, length, map, arith, ap, subst, sym}
use Rattle.std.proofs.lemmas.List.{length-map}
use Rattle.std.proofs.lemmas.Result.{on_ok_weaker}
use Rattle.bits.specs.Codec.{Appends}
use Rattle.schema.specs.Values.{ValueTree}
use Rattle.schema.specs.Borrowed.{value_ref_view, entry_ref_view}
use Rattle.schema.specs.Views.{leaf_view}
use Rattle.pages.specs.Page.{values}
use Rattle.pages.specs.WrittenValues.{AreWritten, AreValuesIn}
use Rattle.pages.specs.Writing.{page_weight}
use Rattle.pages.specs.inner.Put.{most_of_values}
use Rattle.pages.proofs.WrittenPages.{entries_written, parts_are, fills, nulls_and_values}
use Rattle.pages.proofs.page_writing.put_entries.Goals as goal

pub returns-clause-written : goal.returns-clause-written
returns-clause-written c =
    let leaf = leaf_view c.args.leaf.now in
    let kind = leaf.leaf_type.kind in
    let es = map entry_ref_view c.args.entries.now in
    let vs = values es in
    let mid = c.put_sections.new.scratch.items in
    let sections = c.in_ok-sections.ensures.stands in
    let p = subst (λ (t : List ValueTree). Appends (AreWritten kind c.args.encoding t) (most_of_values t) mid c.put_values.new.out.items) c.requires.values c.in_ok-put_values.ensures.stands in
    let count : length c.args.entries.now ≡ length es = sym (length-map c.args.entries.now entry_ref_view) in
    let some : length c.args.values.now ≡ length vs = sym (length-map c.args.values.now value_ref_view) ∙ ap length c.requires.values in
    let parts = parts_are leaf es mid c.as_slice.result.now p.text c.in_ok-sections.sections sections (c.as_slice.ensures.value ∙ p.joined) in
    on_ok_weaker c.put_data_page.result
    (entries_written leaf (record { version = c.args.version; encoding = c.args.encoding; entries = length c.args.entries.now; nulls = length c.args.entries.now - length c.args.values.now; rows = c.count_rows.result }) es (AreValuesIn kind c.args.encoding vs) (page_weight es) sections.repetition_bytes sections.definition_bytes p.text c.args.out.now.items c.put_data_page.new.out.items
    count (omega (arith, count, some, nulls_and_values es)) c.count_rows.ensures.rows sections.first sections.second (fills (AreWritten kind c.args.encoding vs) (most_of_values vs) mid c.put_values.new.out.items p) (omega (arith, sections.first_short, sections.second_short, p.short, count, some, c.requires.few)))
    (c.put_data_page.ensures.stands sections.repetition_bytes sections.definition_bytes p.text parts)
