use Rattle.std.proofs.Common.{◌≡◌, length, refl, ap, arith, Err}
use Rattle.std.specs.Prelude.{pos}
use Rattle.std.proofs.lemmas.Int.{ints}
use Rattle.bits.specs.Refusals.{HasCause}
use Rattle.bits.proofs.Passing.{passes}
use Rattle.schema.specs.Stripe.{columns}
use Rattle.metadata.specs.Views.{group_meta_view}
use Rattle.row_group.specs.Limits.{many_rows, large_chunk}
use Rattle.row_group.proofs.GroupRows.{rows_of_group, stand_for}
use Rattle.row_group.proofs.Fresh.{has_rows, memory_only}
use Rattle.row_group.proofs.rows.Rows.new.Goals as goal

pub returns-in_err-left-clause-which : goal.returns-in_err-left-clause-which
returns-in_err-left-clause-which c =
    let rows = c.requires.accepted.0 in
    let r = c.requires.accepted.1 in
    passes (HasCause (λ _. ⊥)) c.from_residual.result c.in_err-left.field-0.0 c.from_residual.ensures.1
    (memory_only c.in_err-left.field-0.0 (λ fault. let m = r.means.count in c.in_err-left.ensures.only fault (length rows) (omega (arith, ints, m)))
    (λ is.
    let over = c.in_err-left.ensures.limit (ap Err is) in
    r.within_limits (many_rows (omega (arith, ints, over)))))

pub readers_of-requires : goal.readers_of-requires
readers_of-requires c =
    let fs = c.args.schema.now in
    let g = group_meta_view c.args.meta.now in
    let e = c.in_ok-left.ensures.count_is in
    let number : g.num_rows ≡ pos c.in_ok-left.left = omega (arith, ints) in
    let h = has_rows c.args.front.now fs g c.in_ok-left.left c.requires.accepted.0 number c.requires.accepted.1 in
    record { accepted = λ on. (columns fs h.rows, h.sound) }

pub returns-in_err-readers-clause-which : goal.returns-in_err-readers-clause-which
returns-in_err-readers-clause-which c =
    let r = c.requires.accepted.1 in
    passes (HasCause (λ _. ⊥)) c.from_residual-in_err-readers.result c.in_err-readers.field-0.0 c.from_residual-in_err-readers.ensures.1
    (memory_only c.in_err-readers.field-0.0 (λ fault. c.in_err-readers.ensures.only fault _ r.means.chunks) (λ is. r.within_limits (large_chunk (c.in_err-readers.ensures.limit (ap Err is)))))

pub returns-clause-stands : goal.returns-clause-stands
returns-clause-stands c = λ rows r.
    let fs = c.args.schema.now in
    let g = group_meta_view c.args.meta.now in
    let front = c.args.front.now in
    let n = c.in_ok-left.left in
    let e = c.in_ok-left.ensures.count_is in
    let number : g.num_rows ≡ pos n = omega (arith, ints) in
    let h = has_rows front fs g n rows number r in
    let k = rows_of_group front fs g n number rows r.means in
    record { whole = refl; schema = c.in_ok-readers.ensures.valid; flat = c.is_flat.ensures; count = k.count; columns = stand_for front fs g n c.in_ok-readers.readers.items c.in_ok-readers.ensures.stands h rows k }
