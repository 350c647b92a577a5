use Rattle.std.proofs.Common.{◌<◌, ◌∙◌, length, map, ap, arith}
use Rattle.std.proofs.lemmas.Bool.Decides.{nat_tests}
use Rattle.std.proofs.lemmas.List.{length-map}
use Rattle.schema.specs.Borrowed.{value_ref_view, entry_ref_view}
use Rattle.schema.specs.Views.{leaf_view}
use Rattle.pages.specs.Page.{values}
use Rattle.row_group.proofs.Dictionaries.{fault_weaker, found_some, found_indexed, found_none, leaf_values}
use Rattle.row_group.proofs.chunk_styles.dictionary_of.Goals as goal

pub returns-clause-some : goal.returns-clause-some
returns-clause-some c =
    let may = c.allows_dictionary.ensures.0 c.if-not-allows_dictionary.false in
    let shown = ap (map value_ref_view) c.as_slice.ensures.value ∙ c.in_ok-values.ensures.are in
    let e = c.is_empty.ensures in
    let l = c.as_slice.ensures.len in
    let some : 0 < length c.as_slice.result.now = grind (arith, nat_tests) in
    found_some c.args.style c.args.leaf.now.leaf_type.kind (map entry_ref_view c.args.entries.now) (map value_ref_view c.as_slice.result.now) c.build.result may shown (omega (arith, some, length-map c.as_slice.result.now value_ref_view)) c.build.ensures.few

pub returns-clause-indexed : goal.returns-clause-indexed
returns-clause-indexed c =
    let shown = ap (map value_ref_view) c.as_slice.ensures.value ∙ c.in_ok-values.ensures.are in
    found_indexed (map value_ref_view c.as_slice.result.now) (values (map entry_ref_view c.args.entries.now)) shown c.build.result c.build.ensures.stands

pub returns-clause-none : goal.returns-clause-none
returns-clause-none c =
    let shown = ap (map value_ref_view) c.as_slice.ensures.value ∙ c.in_ok-values.ensures.are in
    found_none c.args.style c.args.leaf.now.leaf_type.kind (map entry_ref_view c.args.entries.now) (map value_ref_view c.as_slice.result.now) shown c.build.result c.build.ensures.none

pub returns-clause-only : goal.returns-clause-only
returns-clause-only c =
    let shown = ap (map value_ref_view) c.as_slice.ensures.value ∙ c.in_ok-values.ensures.are in
    fault_weaker c.build.result (λ never all. never (leaf_values (leaf_view c.args.leaf.now) (map entry_ref_view c.args.entries.now) (map value_ref_view c.as_slice.result.now) shown c.what_is_of_a_kind_fits_it.ensures all)) c.build.ensures.only
