use Rattle.std.proofs.Common.{◌≡◌, ◌-◌, ◌≤◌, ◌∙◌, length, map, sym, ap, subst, arith}
use Rattle.std.specs.Prelude.{pos}
use Rattle.std.proofs.lemmas.Int.{ints}
use Rattle.std.proofs.lemmas.List.{length-take}
use Rattle.schema.specs.Views.{leaf_view}
use Rattle.plain.specs.Flat.{flat_entries}
use Rattle.plain.specs.ValuesLeft.{values_left}
use Rattle.row_group.specs.Spelled.{AreStatisticsOf}
use Rattle.row_group.proofs.Passed.{passed}
use Rattle.row_group.proofs.ChunkPut.{chunk_put}
use Rattle.row_group.proofs.CopiedPages.{flat_length}
use Rattle.row_group.proofs.chunk_writing.put_plain_chunk.Goals as goal

pub overflow_sub-size : goal.overflow_sub-size
overflow_sub-size c =
    let old = c.args.out.now in
    let new = c.put_copied_pages.new.out in
    let less : length old.items ≤ length new.items = omega (arith, ap length c.put_copied_pages.ensures.front, length-take (length old.items) new.items) in
    omega (arith, less, c.len-start.ensures, c.len.ensures, old.ok.0, new.ok.0)

pub record_of-requires-clause-path : goal.record_of-requires-clause-path
record_of-requires-clause-path c = c.in_ok-path_in_schema.ensures.names_are ∙ ap (map _) c.as_slice.ensures.value

pub record_of-requires-clause-size : goal.record_of-requires-clause-size
record_of-requires-clause-size c = omega (arith, c.len.ensures, c.put_copied_pages.new.out.ok.0, c.put_copied_pages.new.out.small)

pub returns-in_err-pages-clause-limit : goal.returns-in_err-pages-clause-limit
returns-in_err-pages-clause-limit c = λ limit. c.in_err-pages.ensures.limit (passed c.from_residual-in_err-pages.result c.in_err-pages.field-0.0 _ c.from_residual-in_err-pages.ensures.1 limit)

pub returns-clause-stands : goal.returns-clause-stands
returns-clause-stands c = λ all.
    let leaf = leaf_view c.args.leaf.now in
    let vs = values_left c.args.values in
    let es = flat_entries vs in
    let old = c.args.out.now in
    let new = c.put_copied_pages.new.out in
    let size = c.len.result - c.len-start.result in
    let e = c.len.ensures in
    let s = c.len-start.ensures in
    let few = c.requires.few in
    let made = c.record_of.ensures in
    let filled : size ≡ length new.items - length old.items = omega (arith, old.ok.0, new.ok.0, e, s) in
    let told = subst (AreStatisticsOf leaf es) (sym made.statistics) c.in_ok-statistics.ensures.stands in
    let count = made.count ∙ ap pos (c.len-2.ensures ∙ sym (flat_length vs)) in
    chunk_put c.one_page.ensures.page c.short_pages_are_within_limits.ensures _ leaf c.args.options old.items new.items es c.in_ok-pages.pages size (c.in_ok-pages.ensures.stands all) made.of_leaf
    count (λ many. omega (arith, ints, many, few, flat_length vs)) made.pages filled made.size made.plain_size told
