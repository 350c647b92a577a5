use Rattle.std.proofs.Common.{◌+◌, ◌++◌, ◌∙◌, List, length, map, drop, sym, ap, subst, arith}
use Rattle.std.specs.List.{AllByRecursion}
use Rattle.std.proofs.lemmas.List.{length-map}
use Rattle.bits.specs.Codec.{Appends}
use Rattle.bits.specs.Refusals.{IsFault}
use Rattle.bits.proofs.Passing.{passes}
use Rattle.schema.specs.Stripe.{Entry}
use Rattle.schema.specs.Borrowed.{entry_ref_view}
use Rattle.schema.specs.Law.{IsEntryOf}
use Rattle.schema.specs.Views.{leaf_view}
use Rattle.pages.specs.Page.{values}
use Rattle.pages.specs.Writing.{IsPageTooMuch}
use Rattle.row_group.specs.inner.Parts.{HaveIndexes, IsFirstPage, IsPart, part_weight, AreShortIn}
use Rattle.row_group.proofs.Passed.{passed}
use Rattle.row_group.proofs.PartsPut.{too_heavy, one_put, all_put, page_too_much, all_in_page, rest_shown, page_shown, values_from}
use Rattle.row_group.proofs.pages_in_turn.put_pages.Goals as goal

pub returns-then-len-gt-MOST_BYTES_BEFORE_CHUNK-clause-limit : goal.returns-then-len-gt-MOST_BYTES_BEFORE_CHUNK-clause-limit
returns-then-len-gt-MOST_BYTES_BEFORE_CHUNK-clause-limit c = λ limit.
    let full = c.if-len-gt-MOST_BYTES_BEFORE_CHUNK.true in
    too_heavy (leaf_view c.args.leaf.now) c.args.options c.args.values (map entry_ref_view c.args.entries.now) c.args.out.now.items c.loop-at.out.items c.loop-at.at c.requires.rows (omega (arith, full, c.len.ensures, c.loop-at.out.ok.0)) c.loop-at.invariant.put

pub put_page-requires-clause-indexes : goal.put_page-requires-clause-indexes
put_page-requires-clause-indexes c =
    let es = map entry_ref_view c.args.entries.now in
    let n = c.first_page_len-size.result in
    let shown = page_shown c.args.entries.now c.split_at.result.1.now c.split_at-in-loop-at.result.0.now c.loop-at.at n c.split_at.ensures.back c.split_at-in-loop-at.ensures.front in
    let whole = values_from es c.loop-at.at n ∙ ap (λ (t : List Entry). values t ++ values (drop (c.loop-at.at + n) es)) (sym shown) in
    (values (drop (c.loop-at.at + n) es), subst (HaveIndexes c.args.values c.loop-at.value) whole c.loop-at.invariant.indexes)

pub returns-in_err-value-clause-only : goal.returns-in_err-value-clause-only
returns-in_err-value-clause-only c =
    let P = IsEntryOf (leaf_view c.args.leaf.now) in
    let es = map entry_ref_view c.args.entries.now in
    let n = c.first_page_len-size.result in
    let shown = page_shown c.args.entries.now c.split_at.result.1.now c.split_at-in-loop-at.result.0.now c.loop-at.at n c.split_at.ensures.back c.split_at-in-loop-at.ensures.front in
    passes (λ e. IsFault e → AllByRecursion P es → ⊥) c.from_residual.result c.in_err-value.field-0.0 c.from_residual.ensures.1
    (λ fault all. c.in_err-value.ensures.only fault (subst (AllByRecursion P) (sym shown) (all_in_page P es c.loop-at.at n all)))

pub returns-in_err-value-clause-limit : goal.returns-in_err-value-clause-limit
returns-in_err-value-clause-limit c = λ limit.
    let es = map entry_ref_view c.args.entries.now in
    let n = c.first_page_len-size.result in
    let shown = page_shown c.args.entries.now c.split_at.result.1.now c.split_at-in-loop-at.result.0.now c.loop-at.at n c.split_at.ensures.back c.split_at-in-loop-at.ensures.front in
    page_too_much (length c.args.out.now.items) c.args.options.page_rows c.args.values es c.loop-at.at n
    (subst IsPageTooMuch shown (c.in_err-value.ensures.limit (passed c.from_residual.result c.in_err-value.field-0.0 _ c.from_residual.ensures.1 limit)))

pub loop-at-preserved : goal.loop-at-preserved
loop-at-preserved c =
    let leaf = leaf_view c.args.leaf.now in
    let o = c.args.options in
    let vs = c.args.values in
    let es = map entry_ref_view c.args.entries.now in
    let at = c.loop-at.at in
    let n = c.first_page_len-size.result in
    let mid = c.loop-at.out.items in
    let new = c.put_page.new.out.items in
    let rest = c.split_at.result.1.now in
    let shown = page_shown c.args.entries.now rest c.split_at-in-loop-at.result.0.now at n c.split_at.ensures.back c.split_at-in-loop-at.ensures.front in
    let back = rest_shown c.args.entries.now rest at c.split_at.ensures.back in
    let whole = values_from es at n ∙ ap (λ (t : List Entry). values t ++ values (drop (at + n) es)) (sym shown) in
    let first = subst (λ (t : List Entry). IsFirstPage o.page_rows t n) back c.first_page_len-size.ensures in
    let says = c.in_ok-value.ensures in
    record {
      within = omega (arith, c.first_page_len-size.ensures.within, length-map rest entry_ref_view, c.split_at.ensures.back_len);
      put = one_put leaf o vs es c.args.out.now.items mid new at n first
          (subst (λ (t : List Entry). Appends (λ bytes. IsPart leaf o.page_version vs bytes t) (part_weight vs t) mid new) shown says.stands)
          (subst (AreShortIn vs) shown says.within_limits) c.loop-at.invariant.put;
      indexes = says.next (values (drop (at + n) es)) (subst (HaveIndexes vs c.loop-at.value) whole c.loop-at.invariant.indexes);
    }

pub returns-clause-stands : goal.returns-clause-stands
returns-clause-stands c =
    let es = map entry_ref_view c.args.entries.now in
    all_put (leaf_view c.args.leaf.now) c.args.options c.args.values es c.args.out.now.items c.loop-at.out.items c.loop-at.at (omega (arith, c.loop-at-test.false, length-map c.args.entries.now entry_ref_view)) c.loop-at.invariant.put
