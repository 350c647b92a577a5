use Rattle.std.proofs.Common.{◌≡◌, ℕ, List, ◌<◌, ◌+◌, ◌++◌, ◌∷◌, [], ◌∙◌, length, map, take, sym, ap, subst, arith, Result, Ok, Err}
use Rattle.std.specs.Prelude.{OnErr}
use Rattle.bits.specs.declared.refusal.Refusal.{Refusal}
use Rattle.std.proofs.lemmas.List.{length-map, map-append, take-append-le, take_all}
use Rattle.lists.proofs.Slices.{get_or_map_here as shown_here}
use Rattle.schema.specs.declared.field.Leaf.{Leaf}
use Rattle.schema.specs.Views.{leaf_view}
use Rattle.metadata.specs.Views.{chunk_meta_view}
use Rattle.shred.specs.declared.column.ColumnRef.{ColumnRef}
use Rattle.shred.specs.Columns.{column_ref_view, column_refs_view}
use Rattle.row_group.specs.inner.Columns.{AreColumnsOf, AppendsChunks}
use Rattle.row_group.proofs.Passed.{passed}
use Rattle.row_group.proofs.Laid.{each_kept}
use Rattle.row_group.proofs.ColumnsWritten.{as_many, column_of_leaf, chunk_more, too_much}
use Rattle.row_group.proofs.group_writing.write_columns.Goals as goal

-- a column for each leaf
in_columns : (leaves : List Leaf) (columns : List ColumnRef) → AreColumnsOf (map leaf_view leaves) (column_refs_view columns) → (i : ℕ) → i < length leaves → i < length columns
in_columns leaves columns h i lt =
    let same = as_many (map leaf_view leaves) (column_refs_view columns) h in
    omega (arith, lt, same, length-map leaves leaf_view, length-map columns column_ref_view)

pub bounds-columns-i : goal.bounds-columns-i
bounds-columns-i c = in_columns c.args.leaves.now c.args.columns.now c.requires.entries c.loop-i.i (omega arith)

pub write_column-requires : goal.write_column-requires
write_column-requires c =
    let leaves = c.args.leaves.now in
    let columns = c.args.columns.now in
    let i = c.loop-i.i in
    let leaf = c.index-leaves-i.result in
    let column = c.index-columns-i.result in
    let lt : i < length leaves = omega arith in
    let lc : i < length columns = in_columns leaves columns c.requires.entries i lt in
    record {
      entries = column_of_leaf (map leaf_view leaves) (column_refs_view columns) c.requires.entries i (leaf_view leaf) (column_ref_view column) (omega (arith, lt, length-map leaves leaf_view))
          (shown_here leaf_view leaves i leaf lt c.index-leaves-i.is) (shown_here column_ref_view columns i column lc c.index-columns-i.is);
    }

pub returns-in_err-chunk-clause-limit : goal.returns-in_err-chunk-clause-limit
returns-in_err-chunk-clause-limit c = λ limit.
    let leaves = c.args.leaves.now in
    let columns = c.args.columns.now in
    let i = c.loop-i.i in
    let leaf = c.index-leaves-i.result in
    let column = c.index-columns-i.result in
    let lt : i < length leaves = omega arith in
    let lc : i < length columns = in_columns leaves columns c.requires.entries i lt in
    too_much c.args.options (map leaf_view leaves) (column_refs_view columns) i (leaf_view leaf) (column_ref_view column) c.args.out.now.items c.loop-i.out.items (map chunk_meta_view c.loop-i.chunks.items)
    (omega (arith, lt, length-map leaves leaf_view)) (omega (arith, lc, length-map columns column_ref_view)) (shown_here leaf_view leaves i leaf lt c.index-leaves-i.is)
    (shown_here column_ref_view columns i column lc c.index-columns-i.is) c.loop-i.invariant
    (c.in_err-chunk.ensures.limit (passed c.from_residual-in_err-chunk.result c.in_err-chunk.field-0.0 _ c.from_residual-in_err-chunk.ensures.1 limit))

-- where what was there stays, it does in a refusal
refused : {X : Type 0} (r : Result X Refusal) {P : Type 0} → P → OnErr r P
refused (Ok x) p = tt
refused (Err e) p = p

pub returns-in_err-chunk-clause-front : goal.returns-in_err-chunk-clause-front
returns-in_err-chunk-clause-front c =
    let i = c.loop-i.i in
    let old = c.args.out.now.items in
    let kept = each_kept c.args.options (take i (map leaf_view c.args.leaves.now)) (take i (column_refs_view c.args.columns.now)) old c.loop-i.out.items (map chunk_meta_view c.loop-i.chunks.items) c.loop-i.invariant.each in
    refused c.from_residual-in_err-chunk.result (ap (take (length old)) c.in_err-chunk.ensures.unchanged ∙ kept.0)

pub returns-in_err-push-clause-front : goal.returns-in_err-push-clause-front
returns-in_err-push-clause-front c =
    let i = c.loop-i.i in
    let old = c.args.out.now.items in
    let mid = c.loop-i.out.items in
    let more = c.in_ok-chunk.ensures.stands in
    let kept = each_kept c.args.options (take i (map leaf_view c.args.leaves.now)) (take i (column_refs_view c.args.columns.now)) old mid (map chunk_meta_view c.loop-i.chunks.items) c.loop-i.invariant.each in
    refused c.from_residual-in_err-push.result (ap (take (length old)) more.joined ∙ take-append-le (length old) mid more.text kept.1 ∙ kept.0)

pub loop-i-preserved : goal.loop-i-preserved
loop-i-preserved c =
    let leaves = c.args.leaves.now in
    let columns = c.args.columns.now in
    let i = c.loop-i.i in
    let leaf = c.index-leaves-i.result in
    let column = c.index-columns-i.result in
    let says = c.in_ok-chunk.ensures in
    let lt : i < length leaves = omega arith in
    let lc : i < length columns = in_columns leaves columns c.requires.entries i lt in
    let old = c.args.out.now.items in
    let new = c.write_column.new.out.items in
    let chunk = chunk_meta_view c.in_ok-chunk.chunk in
    let pushed : map chunk_meta_view c.push.new.self.items ≡ map chunk_meta_view c.loop-i.chunks.items ++ chunk ∷ [] = ap (map chunk_meta_view) c.in_ok-push.ensures.items ∙ map-append chunk_meta_view c.loop-i.chunks.items (_ ∷ []) in
    subst (AppendsChunks c.args.options (take (i + 1) (map leaf_view leaves)) (take (i + 1) (column_refs_view columns)) old new) (sym pushed)
    (chunk_more c.args.options (map leaf_view leaves) (column_refs_view columns) i (leaf_view leaf) (column_ref_view column) old c.loop-i.out.items new (map chunk_meta_view c.loop-i.chunks.items) chunk
    (omega (arith, lt, length-map leaves leaf_view)) (omega (arith, lc, length-map columns column_ref_view)) (shown_here leaf_view leaves i leaf lt c.index-leaves-i.is) (shown_here column_ref_view columns i column lc c.index-columns-i.is)
    says.own says.within_limits says.entries_within_limits says.stands c.loop-i.invariant)

pub returns-clause-stands : goal.returns-clause-stands
returns-clause-stands c =
    let leaves = map leaf_view c.args.leaves.now in
    let cols = column_refs_view c.args.columns.now in
    let i = c.loop-i.i in
    let ended : length c.args.leaves.now ≡ i = omega arith in
    let all_leaves : take i leaves ≡ leaves = take_all i leaves (omega (arith, ended, length-map c.args.leaves.now leaf_view)) in
    let same = as_many leaves cols c.requires.entries in
    let all_cols : take i cols ≡ cols = take_all i cols (omega (arith, ended, same, length-map c.args.leaves.now leaf_view)) in
    let done = c.loop-i.invariant in
    rw (sym all_leaves) (rw (sym all_cols) done)
