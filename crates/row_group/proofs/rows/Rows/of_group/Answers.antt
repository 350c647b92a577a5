use Rattle.std.proofs.Common.{◌≡◌, List, refl, arith}
use Rattle.std.specs.Prelude.{pos}
use Rattle.std.proofs.lemmas.Int.{ints}
use Rattle.bits.specs.Refusals.{IsFault}
use Rattle.bits.proofs.Passing.{passes}
use Rattle.schema.specs.Values.{ValueTrees}
use Rattle.schema.specs.Stripe.{columns}
use Rattle.metadata.specs.Views.{group_meta_view}
use Rattle.row_group.specs.Chunks.{GroupMeans}
use Rattle.row_group.specs.Limits.{large_chunk}
use Rattle.row_group.proofs.Passed.{passed}
use Rattle.row_group.proofs.GroupRows.{means, rows_of_group, stand_for, of_readers, not_over}
use Rattle.row_group.proofs.rows.Rows.of_group.Goals as goal

pub returns-in_err-check_rows-clause-only : goal.returns-in_err-check_rows-clause-only
returns-in_err-check_rows-clause-only c =
    let fs = c.args.schema.now in
    let g = group_meta_view c.args.meta.now in
    passes (λ e. IsFault e → (rows : List ValueTrees) → GroupMeans c.args.front.now fs g rows → ⊥) c.from_residual-in_err-check_rows.result c.in_err-check_rows.field-0.0 c.from_residual-in_err-check_rows.ensures.1
    (λ fault rows h.
    let e = c.in_ok-left.ensures.count_is in
    let number : g.num_rows ≡ pos c.in_ok-left.left = omega (arith, ints) in
    c.in_err-check_rows.ensures.only fault rows (rows_of_group c.args.front.now fs g c.in_ok-left.left number rows h))

pub returns-in_err-check_rows-clause-limit : goal.returns-in_err-check_rows-clause-limit
returns-in_err-check_rows-clause-limit c = λ limit. large_chunk (c.in_err-check_rows.ensures.limit (passed c.from_residual-in_err-check_rows.result c.in_err-check_rows.field-0.0 _ c.from_residual-in_err-check_rows.ensures.1 limit))

pub readers_of-requires : goal.readers_of-requires
readers_of-requires c = let h = c.in_ok-check_rows.ensures.stands in record { accepted = λ on. (columns c.args.schema.now h.rows, h.sound) }

pub returns-in_err-readers-clause-only : goal.returns-in_err-readers-clause-only
returns-in_err-readers-clause-only c =
    let fs = c.args.schema.now in
    let g = group_meta_view c.args.meta.now in
    passes (λ e. IsFault e → (rows : List ValueTrees) → GroupMeans c.args.front.now fs g rows → ⊥) c.from_residual-in_err-readers.result c.in_err-readers.field-0.0 c.from_residual-in_err-readers.ensures.1
    (λ fault rows h. c.in_err-readers.ensures.only fault _ h.chunks)

pub returns-in_err-readers-clause-limit : goal.returns-in_err-readers-clause-limit
returns-in_err-readers-clause-limit c = λ limit. large_chunk (c.in_err-readers.ensures.limit (passed c.from_residual-in_err-readers.result c.in_err-readers.field-0.0 _ c.from_residual-in_err-readers.ensures.1 limit))

pub returns-clause-stands : goal.returns-clause-stands
returns-clause-stands c =
    let fs = c.args.schema.now in
    let g = group_meta_view c.args.meta.now in
    let front = c.args.front.now in
    let n = c.in_ok-left.left in
    let e = c.in_ok-left.ensures.count_is in
    let number : g.num_rows ≡ pos n = omega (arith, ints) in
    let h = c.in_ok-check_rows.ensures.stands in
    let m = means front fs g n number h in
    let k = rows_of_group front fs g n number h.rows m in
    (h.rows, m, record { whole = refl; schema = c.in_ok-readers.ensures.valid; flat = c.is_flat.ensures; count = h.count; columns = stand_for front fs g n c.in_ok-readers.readers.items c.in_ok-readers.ensures.stands h h.rows k })

pub returns-clause-alone : goal.returns-clause-alone
returns-clause-alone c = λ rows m.
    let fs = c.args.schema.now in
    let g = group_meta_view c.args.meta.now in
    let front = c.args.front.now in
    let n = c.in_ok-left.left in
    let e = c.in_ok-left.ensures.count_is in
    let number : g.num_rows ≡ pos n = omega (arith, ints) in
    let h = c.in_ok-check_rows.ensures.stands in
    let k = rows_of_group front fs g n number rows m in
    record { whole = refl; schema = c.in_ok-readers.ensures.valid; flat = c.is_flat.ensures; count = k.count; columns = stand_for front fs g n c.in_ok-readers.readers.items c.in_ok-readers.ensures.stands h rows k }

pub returns-clause-one_list : goal.returns-clause-one_list
returns-clause-one_list c = λ rows others p q.
    let fs = c.args.schema.now in
    let g = group_meta_view c.args.meta.now in
    let front = c.args.front.now in
    let n = c.in_ok-left.left in
    let e = c.in_ok-left.ensures.count_is in
    let number : g.num_rows ≡ pos n = omega (arith, ints) in
    let rs = c.in_ok-readers.readers.items in
    c.one_meaning.ensures.group front fs g rows others c.in_ok-readers.ensures.valid (of_readers front fs g n rs c.in_ok-readers.ensures.stands number rows p.count p.columns) (of_readers front fs g n rs c.in_ok-readers.ensures.stands number others q.count q.columns)

pub returns-clause-within_limits : goal.returns-clause-within_limits
returns-clause-within_limits c = not_over c.args.front.now c.args.schema.now (group_meta_view c.args.meta.now) c.in_ok-left.left (λ many. c.in_ok-left.ensures.within_limits (omega (arith, ints, many))) c.in_ok-check_rows.ensures.stands
