use Rattle.std.proofs.Common.{◌≡◌, ◌+◌, ◌++◌, ◌∷◌, [], List, map, take, get_or, ap, sym, subst, ◌∙◌, arith}
use Rattle.std.proofs.lemmas.List.{map-append}
use Rattle.bits.specs.Refusals.{IsFault}
use Rattle.bits.proofs.Passing.{passes}
use Rattle.schema.specs.Values.{ValueTrees}
use Rattle.schema.specs.Stripe.{columns, leaves_of}
use Rattle.schema.specs.Views.{leaf_view}
use Rattle.metadata.specs.Views.{chunk_meta_view}
use Rattle.shred.specs.Buffer.{schema_of, holds}
use Rattle.row_group.specs.inner.Columns.{AppendsChunks}
use Rattle.row_group.proofs.Passed.{passed}
use Rattle.row_group.proofs.ColumnsWritten.{chunk_more, too_much}
use Rattle.row_group.proofs.BufferedColumns.{place_here, extends_more}
use Rattle.row_group.proofs.buffer_writing.write_columns.Goals as goal

pub returns-in_err-chunk-clause-only : goal.returns-in_err-chunk-clause-only
returns-in_err-chunk-clause-only c =
    let b = c.args.rows.now in
    let fs = schema_of b in
    let ls = c.leaves-leaves.result.now in
    let leaves : map leaf_view ls ≡ leaves_of fs = c.leaves-leaves.ensures.leaves_are ∙ ap leaves_of c.schema.ensures in
    passes (λ e. IsFault e → (all : List ValueTrees) → holds b all → ⊥) c.from_residual-in_err-chunk.result c.in_err-chunk.field-0.0 c.from_residual-in_err-chunk.ensures.1
    (λ fault all held.
    let here = place_here c.entries_are_of_leaves.ensures fs all ls c.loop-i.i c.index-leaves-i.result held.fit leaves (omega arith) c.index-leaves-i.is in
    c.in_err-chunk.ensures.only fault all held here.entries)

pub returns-in_err-chunk-clause-limit : goal.returns-in_err-chunk-clause-limit
returns-in_err-chunk-clause-limit c = λ limit all held.
    let b = c.args.rows.now in
    let fs = schema_of b in
    let i = c.loop-i.i in
    let ls = c.leaves-leaves.result.now in
    let leaves : map leaf_view ls ≡ leaves_of fs = c.leaves-leaves.ensures.leaves_are ∙ ap leaves_of c.schema.ensures in
    let here = place_here c.entries_are_of_leaves.ensures fs all ls i c.index-leaves-i.result held.fit leaves (omega arith) c.index-leaves-i.is in
    too_much c.args.options (leaves_of fs) (columns fs all) i (leaf_view c.index-leaves-i.result) (get_or (columns fs all) i []) c.args.out.now.items c.loop-i.out.items (map chunk_meta_view c.loop-i.chunks.items)
    here.of_leaves here.of_columns here.leaf_is here.column_is (c.loop-i.invariant.stands all held)
    (c.in_err-chunk.ensures.limit (passed c.from_residual-in_err-chunk.result c.in_err-chunk.field-0.0 _ c.from_residual-in_err-chunk.ensures.1 limit) all held here.entries)

pub loop-i-preserved : goal.loop-i-preserved
loop-i-preserved c =
    let b = c.args.rows.now in
    let fs = schema_of b in
    let i = c.loop-i.i in
    let ls = c.leaves-leaves.result.now in
    let leaf = leaf_view c.index-leaves-i.result in
    let leaves : map leaf_view ls ≡ leaves_of fs = c.leaves-leaves.ensures.leaves_are ∙ ap leaves_of c.schema.ensures in
    let old = c.args.out.now.items in
    let mid = c.loop-i.out.items in
    let new = c.write_column.new.out.items in
    let before = map chunk_meta_view c.loop-i.chunks.items in
    let chunk = chunk_meta_view c.in_ok-chunk.chunk in
    let pushed : map chunk_meta_view c.push.new.self.items ≡ before ++ chunk ∷ [] = ap (map chunk_meta_view) c.in_ok-push.ensures.items ∙ map-append chunk_meta_view c.loop-i.chunks.items (_ ∷ []) in
    record {
      stands = λ all held.
          let here = place_here c.entries_are_of_leaves.ensures fs all ls i c.index-leaves-i.result held.fit leaves (omega arith) c.index-leaves-i.is in
          let p = c.in_ok-chunk.ensures.stands all held here.entries in
          subst (AppendsChunks c.args.options (take (i + 1) (leaves_of fs)) (take (i + 1) (columns fs all)) old new) (sym pushed)
          (chunk_more c.args.options (leaves_of fs) (columns fs all) i leaf (get_or (columns fs all) i []) old mid new before chunk
          here.of_leaves here.of_columns here.leaf_is here.column_is p.own p.values_short p.few p.chunk (c.loop-i.invariant.stands all held));
      extends = extends_more old mid new c.loop-i.invariant.extends c.in_ok-chunk.ensures.extends;
    }
