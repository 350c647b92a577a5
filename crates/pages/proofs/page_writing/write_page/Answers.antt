use Rattle.std.proofs.Common.{◌∙◌, List, map, sym, ap, subst}
use Rattle.std.specs.Prelude.{All}
use Rattle.std.specs.List.{Any}
use Rattle.std.proofs.lemmas.Result.{on_ok_weaker}
use Rattle.schema.specs.Values.{ValueTree}
use Rattle.schema.specs.Borrowed.{value_ref_view, entry_ref_view}
use Rattle.schema.specs.Views.{leaf_view}
use Rattle.plain.specs.Plain.{IsOfKind, IsTooLong}
use Rattle.pages.specs.Page.{values}
use Rattle.pages.proofs.WrittenPages.{kinds_in, all_short, page_stands}
use Rattle.pages.proofs.page_writing.write_page.Goals as goal

pub put_entries-done-requires-clause-of_kind : goal.put_entries-done-requires-clause-of_kind
put_entries-done-requires-clause-of_kind c =
    let leaf = leaf_view c.args.leaf.now in
    let es = map entry_ref_view c.args.entries.now in
    subst (All (IsOfKind leaf.leaf_type.kind)) (sym (ap (map value_ref_view) c.as_slice.ensures.value ∙ c.in_ok-values.ensures.are)) (kinds_in leaf es c.what_is_of_a_kind_fits_it.ensures c.in_ok-check_entries.ensures.are)

pub returns-clause-stands : goal.returns-clause-stands
returns-clause-stands c =
    on_ok_weaker c.put_entries-done.result (page_stands (leaf_view c.args.leaf.now) c.args.version c.args.encoding (map entry_ref_view c.args.entries.now) c.args.out.now.items c.put_entries-done.new.out.items c.in_ok-check_entries.ensures.are) c.put_entries-done.ensures.written

pub returns-clause-within_limits : goal.returns-clause-within_limits
returns-clause-within_limits c =
    on_ok_weaker c.put_entries-done.result (λ p. all_short (values (map entry_ref_view c.args.entries.now)) (subst (λ (t : List ValueTree). Any IsTooLong t → ⊥) (ap (map value_ref_view) c.as_slice.ensures.value ∙ c.in_ok-values.ensures.are) p)) c.put_entries-done.ensures.within_limits

pub put_full_entries-requires-clause-of_kind : goal.put_full_entries-requires-clause-of_kind
put_full_entries-requires-clause-of_kind c = kinds_in (leaf_view c.args.leaf.now) (map entry_ref_view c.args.entries.now) c.what_is_of_a_kind_fits_it.ensures c.in_ok-check_entries.ensures.are

pub returns-then-has_known_size-clause-stands : goal.returns-then-has_known_size-clause-stands
returns-then-has_known_size-clause-stands c =
    on_ok_weaker c.put_full_entries.result (page_stands (leaf_view c.args.leaf.now) c.args.version c.args.encoding (map entry_ref_view c.args.entries.now) c.args.out.now.items c.put_full_entries.new.out.items c.in_ok-check_entries.ensures.are) c.put_full_entries.ensures.written

pub returns-then-has_known_size-clause-within_limits : goal.returns-then-has_known_size-clause-within_limits
returns-then-has_known_size-clause-within_limits c =
    on_ok_weaker c.put_full_entries.result (all_short (values (map entry_ref_view c.args.entries.now))) c.put_full_entries.ensures.within_limits
