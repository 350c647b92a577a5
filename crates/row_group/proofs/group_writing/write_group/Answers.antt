use Rattle.std.proofs.Common.{◌≡◌, ◌+◌, ◌-◌, ◌∙◌, List, length, map, Some, sym, ap, subst, arith, to_z, w64, Err}
use Rattle.std.specs.Prelude.{ℤ, pos}
use Rattle.std.proofs.lemmas.Int.{ints, to_z_pos}
use Rattle.std.proofs.lemmas.List.{length-map}
use Rattle.bits.specs.declared.refusal.Refusal.TheVariants.{Limit}
use Rattle.schema.specs.Stripe.{Leaf, Entry, leaves_of, columns}
use Rattle.schema.specs.Views.{row_view, rows_view, leaf_view}
use Rattle.metadata.specs.Views.{chunk_meta_view}
use Rattle.shred.specs.Columns.{column_refs_view}
use Rattle.row_group.specs.inner.Columns.{AreColumnsOf, AppendsChunks, AreTooMuch}
use Rattle.row_group.proofs.Laid.{each_kept}
use Rattle.row_group.proofs.ColumnsWritten.{columns_of_leaves, group_written, group_too_much}
use Rattle.row_group.proofs.group_writing.write_group.Goals as goal

pub write_columns-requires : goal.write_columns-requires
write_columns-requires c =
    let fs = c.args.schema.now in
    let rows = rows_view c.args.rows.now in
    let same : column_refs_view c.as_slice.result.now ≡ columns fs rows = ap column_refs_view c.as_slice.ensures.value ∙ c.in_ok-found.ensures.stands in
    record {
      entries = subst (λ (ls : List Leaf). AreColumnsOf ls (column_refs_view c.as_slice.result.now)) (sym c.leaves.ensures.leaves_are)
          (subst (AreColumnsOf (leaves_of fs)) (sym same) (columns_of_leaves c.entries_are_of_leaves.ensures fs rows c.in_ok-found.ensures.fit));
    }

pub overflow_sub-result : goal.overflow_sub-result
overflow_sub-result c =
    let old = c.args.out.now in
    let new = c.write_columns.new.out in
    let kept = each_kept c.args.options (map leaf_view c.leaves.result.now) (column_refs_view c.as_slice.result.now) old.items new.items _ c.in-Ok.ensures.stands.each in
    omega (arith, kept.1, c.len-kept.ensures, c.len.ensures, old.ok.0, new.ok.0)

pub returns-in-Ok-clause-stands : goal.returns-in-Ok-clause-stands
returns-in-Ok-clause-stands c =
    let fs = c.args.schema.now in
    let rows = c.args.rows.now in
    let old = c.args.out.now in
    let new = c.write_columns.new.out in
    let size = c.len.result - c.len-kept.result in
    let few = c.if-rows.false in
    let e = c.len.ensures in
    let k = c.len-kept.ensures in
    let same : column_refs_view c.as_slice.result.now ≡ columns fs (rows_view rows) = ap column_refs_view c.as_slice.ensures.value ∙ c.in_ok-found.ensures.stands in
    let chunks = map chunk_meta_view c.in-Ok.columns.items in
    let kept = each_kept c.args.options (map leaf_view c.leaves.result.now) (column_refs_view c.as_slice.result.now) old.items new.items chunks c.in-Ok.ensures.stands.each in
    let written : AppendsChunks c.args.options (leaves_of fs) (columns fs (rows_view rows)) old.items new.items chunks =
    subst (λ (ls : List Leaf). AppendsChunks c.args.options ls (columns fs (rows_view rows)) old.items new.items chunks) c.leaves.ensures.leaves_are
    (subst (λ (cols : List (List Entry)). AppendsChunks c.args.options (map leaf_view c.leaves.result.now) cols old.items new.items chunks) same c.in-Ok.ensures.stands) in
    let filled : size + length old.items ≡ length new.items = omega (arith, kept.1, e, k, old.ok.0, new.ok.0) in
    let count : to_z w64 (length rows) ≡ pos (length (rows_view rows)) = to_z_pos w64 (length rows) (omega arith) ∙ ap pos (sym (length-map rows row_view)) in
    let says : to_z w64 size ≡ pos size = to_z_pos w64 size (omega (arith, new.small)) in
    group_written c.rows_begin_once.ensures fs c.args.options (rows_view rows) old.items new.items _ size c.in_ok-found.ensures.fit filled count (λ many. omega (arith, ints, many, few, length-map rows row_view)) (ap (λ (z : ℤ). Some z) says) written

pub returns-clause-limit : goal.returns-clause-limit
returns-clause-limit c = λ limit.
    let fs = c.args.schema.now in
    let rows = rows_view c.args.rows.now in
    let before = length c.args.out.now.items in
    let same : column_refs_view c.as_slice.result.now ≡ columns fs rows = ap column_refs_view c.as_slice.ensures.value ∙ c.in_ok-found.ensures.stands in
    let is : c.in-Err.refusal ≡ Limit = cc in
    group_too_much c.rows_begin_once.ensures fs c.args.options before rows c.in_ok-found.ensures.fit
    (subst (λ (ls : List Leaf). AreTooMuch c.args.options ls before (columns fs rows)) c.leaves.ensures.leaves_are
    (subst (AreTooMuch c.args.options (map leaf_view c.leaves.result.now) before) same (c.in-Err.ensures.limit (ap Err is))))
