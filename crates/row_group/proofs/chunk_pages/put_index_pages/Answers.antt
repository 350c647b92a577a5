use Rattle.std.proofs.Common.{◌≡◌, ◌∙◌, [], ◌∷◌, length, map, Some, refl, ap, arith, to_z, w64}
use Rattle.std.specs.Prelude.{ℤ, pos}
use Rattle.std.specs.List.{AllByRecursion}
use Rattle.std.proofs.lemmas.Int.{to_z_pos}
use Rattle.std.proofs.lemmas.List.{length-append}
use Rattle.bits.specs.Refusals.{IsFault}
use Rattle.bits.proofs.Passing.{passes}
use Rattle.schema.specs.Borrowed.{entry_ref_view}
use Rattle.schema.specs.Law.{IsEntryOf}
use Rattle.schema.specs.Views.{leaf_view}
use Rattle.dictionary.specs.Entries.{entries_of, indexes_of}
use Rattle.row_group.specs.declared.pages_in_turn.PageValues.TheVariants.{Indexed}
use Rattle.row_group.specs.inner.Parts.{IsPart}
use Rattle.row_group.proofs.Passed.{passed}
use Rattle.row_group.proofs.PartsPut.{front_kept}
use Rattle.row_group.proofs.TooMuch.{indexes_much, dictionary_much, entries_short, entries_of_kind, front_again}
use Rattle.row_group.proofs.ChunkPut.{index_pages}
use Rattle.row_group.proofs.chunk_pages.put_index_pages.Goals as goal

pub put_pages-requires-clause-indexes : goal.put_pages-requires-clause-indexes
put_pages-requires-clause-indexes c = (omega arith, c.requires.indexed.stand)

pub returns-in_err-write_dictionary_page-clause-only : goal.returns-in_err-write_dictionary_page-clause-only
returns-in_err-write_dictionary_page-clause-only c =
    let leaf = leaf_view c.args.leaf.now in
    let es = map entry_ref_view c.args.entries.now in
    let d = c.args.dictionary.now in
    passes (λ e. IsFault e → AllByRecursion (IsEntryOf leaf) es → ⊥) c.from_residual-in_err-write_dictionary_page.result c.in_err-write_dictionary_page.field-0.0 c.from_residual-in_err-write_dictionary_page.ensures.1
    (λ fault all. c.in_err-write_dictionary_page.ensures.only fault (entries_of_kind leaf es (entries_of d) (indexes_of d) c.requires.indexed c.what_is_of_a_kind_fits_it.ensures all))

pub returns-in_err-write_dictionary_page-clause-limit : goal.returns-in_err-write_dictionary_page-clause-limit
returns-in_err-write_dictionary_page-clause-limit c = λ limit.
    let d = c.args.dictionary.now in
    dictionary_much (leaf_view c.args.leaf.now) c.args.options (length c.args.out.now.items) (map entry_ref_view c.args.entries.now) (entries_of d) (indexes_of d) c.requires.rows c.requires.suits c.requires.indexed
    (c.in_err-write_dictionary_page.ensures.limit (passed c.from_residual-in_err-write_dictionary_page.result c.in_err-write_dictionary_page.field-0.0 _ c.from_residual-in_err-write_dictionary_page.ensures.1 limit))

pub returns-in_err-put_pages-clause-limit : goal.returns-in_err-put_pages-clause-limit
returns-in_err-put_pages-clause-limit c = λ limit.
    let d = c.args.dictionary.now in
    let w = c.in_ok-write_dictionary_page.ensures.written in
    let old = c.args.out.now.items in
    let mid = c.write_dictionary_page.new.out.items in
    indexes_much (leaf_view c.args.leaf.now) c.args.options (Indexed c.args.dictionary) (length old) (length mid) (map entry_ref_view c.args.entries.now) (entries_of d) (indexes_of d) (λ parts. refl) c.requires.rows c.requires.suits c.requires.indexed
    (omega (arith, ap length w.joined, length-append old w.text, w.short))
    (c.in_err-put_pages.ensures.limit (passed c.from_residual-in_err-put_pages.result c.in_err-put_pages.field-0.0 _ c.from_residual-in_err-put_pages.ensures.1 limit))

pub returns-in_err-put_pages-clause-front : goal.returns-in_err-put_pages-clause-front
returns-in_err-put_pages-clause-front c =
    let w = c.in_ok-write_dictionary_page.ensures.written in
    front_kept c.from_residual-in_err-put_pages.result _ (front_again c.args.out.now.items c.write_dictionary_page.new.out.items c.put_pages.new.out.items w.text w.joined c.in_err-put_pages.ensures.front)

pub returns-clause-within_limits : goal.returns-clause-within_limits
returns-clause-within_limits c =
    let d = c.args.dictionary.now in
    entries_short (map entry_ref_view c.args.entries.now) (entries_of d) (indexes_of d) c.requires.indexed c.in_ok-write_dictionary_page.ensures.within_limits

pub returns-clause-stands : goal.returns-clause-stands
returns-clause-stands c =
    let leaf = leaf_view c.args.leaf.now in
    let o = c.args.options in
    let d = c.args.dictionary.now in
    let old = c.args.out.now.items in
    let mid = c.write_dictionary_page.new.out in
    let a = c.in_ok-put_pages.ensures.stands in
    let short = c.in_ok-write_dictionary_page.ensures.within_limits in
    let start : to_z w64 c.len-start.result ≡ pos (length old) = to_z_pos w64 c.len-start.result (omega (arith, c.len-start.ensures, c.args.out.now.ok.0, c.args.out.now.small)) ∙ ap pos (omega (arith, c.len-start.ensures, c.args.out.now.ok.0)) in
    let behind : to_z w64 c.len-data.result ≡ pos (length mid.items) = to_z_pos w64 c.len-data.result (omega (arith, c.len-data.ensures, mid.ok.0, mid.small)) ∙ ap pos (omega (arith, c.len-data.ensures, mid.ok.0)) in
    let numbers : c.in_ok-encodings.encodings.items ≡ pos 0 ∷ pos 3 ∷ pos 8 ∷ [] = c.in_ok-encodings.ensures.numbers in
    index_pages leaf o (map entry_ref_view c.args.entries.now) (entries_of d) (indexes_of d) _ old mid.items c.put_pages.new.out.items a.parts (IsPart leaf o.page_version (Indexed c.args.dictionary))
    (λ t part u p. p.written) (λ t part u p. p.read) c.requires.begun c.requires.suits c.requires.indexed short
    (entries_short (map entry_ref_view c.args.entries.now) (entries_of d) (indexes_of d) c.requires.indexed short) a.paged
    c.in_ok-write_dictionary_page.ensures.written c.in_ok-write_dictionary_page.ensures.stands a.written numbers (ap (λ (z : ℤ). Some z) start) behind
