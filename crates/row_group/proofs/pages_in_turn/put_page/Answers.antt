use Rattle.std.proofs.Common.{◌≡◌, ◌+◌, ◌++◌, ◌∙◌, ℕ, List, length, map, take, drop, sym, ap, subst, arith}
use Rattle.std.specs.List.{AllByRecursion}
use Rattle.std.proofs.lemmas.List.{length-map, length-drop, drop-drop}
use Rattle.bits.specs.Refusals.{IsFault}
use Rattle.bits.proofs.Passing.{passes}
use Rattle.schema.specs.Values.{view}
use Rattle.schema.specs.Borrowed.{entry_ref_view}
use Rattle.schema.specs.Law.{IsEntryOf}
use Rattle.schema.specs.Views.{leaf_view}
use Rattle.dictionary.specs.Entries.{AreEntriesAt, entries_of, indexes_of}
use Rattle.pages.specs.Page.{values}
use Rattle.row_group.specs.declared.pages_in_turn.PageValues.{PageValues}
use Rattle.row_group.specs.inner.Parts.{HaveIndexes}
use Rattle.row_group.proofs.PartsPut.{indexes_after, indexes_first, indexes_fit, index_count, value_part, index_part}
use Rattle.row_group.proofs.pages_in_turn.put_page.Goals as goal

pub split_at-requires : goal.split_at-requires
split_at-requires c =
    let vs = values (map entry_ref_view c.args.entries.now) in
    let h = subst (λ (v : PageValues). HaveIndexes v c.args.at (vs ++ c.requires.indexes.0)) c.in-Indexed.is c.requires.indexes.1 in
    omega (arith, h.0, ap length c.indexes.ensures)

pub returns-in_err-write_index_page-in-Indexed-clause-only : goal.returns-in_err-write_index_page-in-Indexed-clause-only
returns-in_err-write_index_page-in-Indexed-clause-only c =
    let vs = values (map entry_ref_view c.args.entries.now) in
    let d = c.in-Indexed.dictionary.now in
    let h = subst (λ (v : PageValues). HaveIndexes v c.args.at (vs ++ c.requires.indexes.0)) c.in-Indexed.is c.requires.indexes.1 in
    let size : length c.entries-size.result.now ≡ length (entries_of d) = sym (length-map c.entries-size.result.now view) ∙ ap length c.entries-size.ensures in
    let here : c.split_at-in-Indexed.result.0.now ≡ take (length vs) (drop c.args.at (indexes_of d)) = c.split_at-in-Indexed.ensures.front ∙ ap (λ (n : ℕ). take n c.split_at.result.1.now) c.count_values-count.ensures.count
    ∙ ap (take (length vs)) (c.split_at.ensures.back ∙ ap (drop c.args.at) c.indexes.ensures) in
    let stand = subst (λ (is : List ℕ). AreEntriesAt (entries_of d) is vs) (sym here) (indexes_first (entries_of d) (drop c.args.at (indexes_of d)) vs c.requires.indexes.0 h.1) in
    passes (λ e. IsFault e → AllByRecursion (IsEntryOf (leaf_view c.args.leaf.now)) (map entry_ref_view c.args.entries.now) → ⊥) c.from_residual-in_err-write_index_page-in-Indexed.result c.in_err-write_index_page-in-Indexed.field-0.0 c.from_residual-in_err-write_index_page-in-Indexed.ensures.1
    (λ fault. c.in_err-write_index_page-in-Indexed.ensures.only fault (indexes_fit (entries_of d) c.split_at-in-Indexed.result.0.now vs (length c.entries-size.result.now) size stand))

pub returns-in_ok-write_page-in-Encoded-clause-stands : goal.returns-in_ok-write_page-in-Encoded-clause-stands
returns-in_ok-write_page-in-Encoded-clause-stands c =
    rw c.in-Encoded.is (value_part (leaf_view c.args.leaf.now) c.args.version c.in-Encoded.encoding (map entry_ref_view c.args.entries.now) c.args.out.now.items c.write_page.new.out.items c.in_ok-write_page-in-Encoded.ensures.written c.in_ok-write_page-in-Encoded.ensures.stands)

pub returns-in_ok-write_index_page-in-Indexed-clause-stands : goal.returns-in_ok-write_index_page-in-Indexed-clause-stands
returns-in_ok-write_index_page-in-Indexed-clause-stands c =
    let es = map entry_ref_view c.args.entries.now in
    let vs = values es in
    let d = c.in-Indexed.dictionary.now in
    let h = subst (λ (v : PageValues). HaveIndexes v c.args.at (vs ++ c.requires.indexes.0)) c.in-Indexed.is c.requires.indexes.1 in
    let size : length c.entries-size.result.now ≡ length (entries_of d) = sym (length-map c.entries-size.result.now view) ∙ ap length c.entries-size.ensures in
    let here : c.split_at-in-Indexed.result.0.now ≡ take (length vs) (drop c.args.at (indexes_of d)) = c.split_at-in-Indexed.ensures.front ∙ ap (λ (n : ℕ). take n c.split_at.result.1.now) c.count_values-count.ensures.count
    ∙ ap (take (length vs)) (c.split_at.ensures.back ∙ ap (drop c.args.at) c.indexes.ensures) in
    let stand = subst (λ (is : List ℕ). AreEntriesAt (entries_of d) is vs) (sym here) (indexes_first (entries_of d) (drop c.args.at (indexes_of d)) vs c.requires.indexes.0 h.1) in
    let p = index_part (leaf_view c.args.leaf.now) c.args.version (entries_of d) (length c.entries-size.result.now) c.split_at-in-Indexed.result.0.now es c.args.out.now.items c.write_index_page.new.out.items size stand
    c.in_ok-write_index_page-in-Indexed.ensures.written c.in_ok-write_index_page-in-Indexed.ensures.stands in
    rw c.in-Indexed.is (record { text = p.text; joined = p.joined; stands = λ more. record { written = (p.stands more).0; read = (p.stands more).1 }; short = p.short })

pub returns-in_ok-write_index_page-in-Indexed-clause-next : goal.returns-in_ok-write_index_page-in-Indexed-clause-next
returns-in_ok-write_index_page-in-Indexed-clause-next c = λ more have.
    let vs = values (map entry_ref_view c.args.entries.now) in
    let d = c.in-Indexed.dictionary.now in
    let at = c.args.at in
    let h = subst (λ (v : PageValues). HaveIndexes v at (vs ++ more)) c.in-Indexed.is have in
    let count = c.count_values-count.ensures.count in
    let after = indexes_after (entries_of d) (drop at (indexes_of d)) vs more h.1 in
    let moved : drop (length vs) (drop at (indexes_of d)) ≡ drop (at + c.count_values-count.result) (indexes_of d) = drop-drop (length vs) at (indexes_of d) ∙ ap (λ (n : ℕ). drop (at + n) (indexes_of d)) (sym count) in
    rw c.in-Indexed.is (
      omega (arith, h.0, count, index_count (entries_of d) (drop at (indexes_of d)) vs more h.1, length-drop at (indexes_of d)),
      subst (λ (is : List ℕ). AreEntriesAt (entries_of d) is more) moved after,
    )
