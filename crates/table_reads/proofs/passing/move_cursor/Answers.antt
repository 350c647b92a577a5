use Rattle.std.proofs.Common.{◌≡◌, ℕ, zero, suc, [], ◌∷◌, ◌<◌, List, length, get_or, sym, ◌∙◌, ap, subst, arith}
use Rattle.std.specs.Prelude.{slice_set}
use Rattle.table_state.specs.declared.jobs.OpenCursor.{OpenCursor}
use Rattle.table_reads.specs.Passing.{moved}
use Rattle.table_reads.proofs.MovedCursors.{move_here, move_none}
use Rattle.table_reads.proofs.passing.move_cursor.Goals as goal

again_is : (xs : List OpenCursor) (i : ℕ) (x y : OpenCursor) → i < length xs → x ≡ get_or xs i x → y ≡ get_or xs i y → x ≡ y
again_is [] i x y low a b = absurd (omega (arith, low))
again_is (z ∷ zs) zero x y low a b = a ∙ sym b
again_is (z ∷ zs) (suc i) x y low a b = again_is zs i x y (omega (arith, low)) a b

pub returns-then-cursors-i : goal.returns-then-cursors-i
returns-then-cursors-i c =
    let old = c.args.cursors.now in
    let same = c.loop-i.invariant.same in
    let is = subst (λ (xs : List OpenCursor). c.index-cursors-i.result ≡ get_or xs c.loop-i.i c.index-cursors-i.result) same c.index-cursors-i.is in
    let again = subst (λ (xs : List OpenCursor). c.index-cursors-i-then-cursors-i.result ≡ get_or xs c.loop-i.i c.index-cursors-i-then-cursors-i.result) same c.index-cursors-i-then-cursors-i.is in
    let low = subst (λ (xs : List OpenCursor). c.loop-i.i < length xs) same (omega (arith, c.loop-i-test.true)) in
    let number : c.index-cursors-i-then-cursors-i.result.number ≡ c.args.number = ap (λ (x : OpenCursor). x.number) (again_is old c.loop-i.i _ _ low again is) ∙ ap (λ (x : OpenCursor). x.number) c.index-cursors-i.is ∙ c.if-cursors-i.true in
    ap (λ (xs : List OpenCursor). slice_set xs c.loop-i.i c.pass.new.cursor) same
    ∙ ap (λ (x : OpenCursor). slice_set old c.loop-i.i x) (c.pass.ensures ∙ ap (λ (x : OpenCursor). moved c.args.passed c.args.ended x) (sym c.index-cursors-i-then-cursors-i.is))
    ∙ move_here c.args.number c.args.passed c.args.ended old c.loop-i.i c.index-cursors-i-then-cursors-i.result low again number c.loop-i.invariant.none

pub returns : goal.returns
returns c = c.loop-i.invariant.same ∙ move_none c.args.number c.args.passed c.args.ended c.args.cursors.now c.loop-i.i (omega (arith, c.loop-i-test.false)) c.loop-i.invariant.none
