use Rattle.std.proofs.Common.{◌≡◌, ◌∙◌, List, length, map, arith, subst, sym}
use Rattle.std.specs.Prelude.{All}
use Rattle.std.specs.List.{Any}
use Rattle.std.proofs.lemmas.List.{length-map}
use Rattle.std.proofs.lemmas.Result.{on_ok_weaker}
use Rattle.schema.specs.Values.{ValueTree}
use Rattle.schema.specs.Borrowed.{entry_ref_view}
use Rattle.schema.specs.Views.{leaf_view}
use Rattle.plain.specs.Plain.{IsOfKind, IsTooLong}
use Rattle.pages.proofs.FullEntries.{lent, lent_values, values_count, no_nulls, rows_are, full_refused}
use Rattle.pages.proofs.WrittenPlain.{plain_written}
use Rattle.pages.proofs.page_writing.put_full_entries.Goals as goal

pub put_plain_page-requires-clause-of_kind : goal.put_plain_page-requires-clause-of_kind
put_plain_page-requires-clause-of_kind c =
    let leaf = leaf_view c.args.leaf.now in
    subst (All (IsOfKind leaf.leaf_type.kind)) (sym (lent_values leaf c.args.entries.now c.requires.definition c.requires.entries)) c.requires.of_kind

pub returns-clause-written : goal.returns-clause-written
returns-clause-written c =
    let leaf = leaf_view c.args.leaf.now in
    let es = map entry_ref_view c.args.entries.now in
    let n = length c.args.entries.now in
    let count : n ≡ length es = sym (length-map c.args.entries.now entry_ref_view) in
    let all = c.requires.entries in
    let some = values_count leaf c.args.entries.now c.requires.definition all in
    on_ok_weaker c.put_plain_page.result
    (plain_written leaf (record { version = c.args.version; encoding = c.args.encoding; entries = n; nulls = 0; rows = n }) es (map lent c.args.entries.now) c.args.out.now.items c.put_plain_page.new.out.items
    c.requires.repetition c.requires.definition c.requires.encoding (lent_values leaf c.args.entries.now c.requires.definition all) count (no_nulls leaf c.args.entries.now c.requires.definition all) (count ∙ sym (rows_are leaf es c.requires.repetition all)) (omega (arith, count, some)))
    c.put_plain_page.ensures.stands

pub returns-clause-within_limits : goal.returns-clause-within_limits
returns-clause-within_limits c =
    on_ok_weaker c.put_plain_page.result (subst (λ (vs : List ValueTree). Any IsTooLong vs → ⊥) (lent_values (leaf_view c.args.leaf.now) c.args.entries.now c.requires.definition c.requires.entries)) c.put_plain_page.ensures.within_limits

pub returns-clause-which : goal.returns-clause-which
returns-clause-which c =
    let leaf = leaf_view c.args.leaf.now in
    let entries = c.args.entries.now in
    let es = map entry_ref_view entries in
    let count : length entries ≡ length es = sym (length-map entries entry_ref_view) in
    full_refused leaf.leaf_type.kind c.args.encoding es (map lent entries) (length entries) c.put_plain_page.result (lent_values leaf entries c.requires.definition c.requires.entries) count
    (omega (arith, count, values_count leaf entries c.requires.definition c.requires.entries)) c.put_plain_page.ensures.which
