-- The step from one field to the next.
use Rattle.std.proofs.Common.{◌≡◌, ◌+◌, ◌^◌, ◌<◌, ◌≤◌, sym, ap, subst, ◌∙◌, arith, to_z, of_z}
use Rattle.std.specs.Prelude.{ℤ, pos, negsuc, ◌+ℤ◌, ◌-ℤ◌, FitsSigned, nat_abs, Bool, true}
use Rattle.std.specs.Int.{w16, w32, w64}
use Rattle.std.proofs.Math.IntN.{+ℤ_comm, -ℤ-+ℤ_cancel}
use Rattle.std.proofs.lemmas.Int.{to_z-of_z, ints}
use Rattle.std.proofs.lemmas.Bool.Decides.{nat_tests}
use lib.Signed.{le_z, mag}
use borrow.Author.Differences.{up, down}
use Rattle.lists.proofs.Numbers.{fits_wider as wider}
use Rattle.thrift_compact.specs.Length.{is_step}
use Rattle.thrift_compact.specs.inner.Writing.{IsStep}

range_of : (z : ℤ) → FitsSigned w16 z → (up z < down z + 2 ^ 15) × (down z ≤ up z + 2 ^ 15)
range_of (pos n) p = (omega (arith, p.sfits), omega (arith, p.sfits))
range_of (negsuc n) p = (omega (arith, p.sfits), omega (arith, p.sfits))

range_fits : (z : ℤ) → up z < down z + 2 ^ 31 → down z ≤ up z + 2 ^ 31 → mag z < 2 ^ 31
range_fits (pos n) p q = omega arith
range_fits (negsuc n) p q = omega arith

difference : (a b : ℤ) → FitsSigned w16 a → FitsSigned w16 b → FitsSigned w32 (a -ℤ b)
difference a b p q =
    let f = range_of a p in
    let g = range_of b q in
    record { sfits = range_fits (a -ℤ b) (omega (arith, ints, f.0, f.1, g.0, g.1)) (omega (arith, ints, f.0, f.1, g.0, g.1)) }

is_step_true : (z : ℤ) → le_z (pos 1) z ≡ true → le_z z (pos 15) ≡ true → is_step z ≡ true
is_step_true (pos n) p q = grind (arith, nat_tests)
is_step_true (negsuc n) p q = absurd (cc)

a_step : (previous id z : ℤ) → id ≡ previous +ℤ z → le_z (pos 1) z ≡ true → le_z z (pos 15) ≡ true → IsStep previous id (nat_abs z)
a_step previous id (pos n) e p q = record { low = grind (arith, nat_tests); high = grind (arith, nat_tests); is = e }
a_step previous id (negsuc n) e p q = absurd (cc)

both : (previous id z : ℤ) → z ≡ id -ℤ previous → le_z (pos 1) z ≡ true → le_z z (pos 15) ≡ true → (is_step (id -ℤ previous) ≡ true) × IsStep previous id (nat_abs z)
both previous id z e p q =
    let back : id ≡ previous +ℤ z = sym (-ℤ-+ℤ_cancel id previous) ∙ +ℤ_comm (id -ℤ previous) previous ∙ ap (λ (w : ℤ). previous +ℤ w) (sym e) in
    (subst (λ (w : ℤ). is_step w ≡ true) e (is_step_true z p q), a_step previous id z back p q)

-- what the difference of two ids says, computed at 32 bits
pub step_of : (previous id x y : ℤ) → FitsSigned w16 previous → FitsSigned w16 id → x ≡ to_z w16 (of_z w16 id) → y ≡ to_z w16 (of_z w16 previous)
    → le_z (pos 1) (to_z w32 (of_z w32 (to_z w32 (of_z w32 x) -ℤ to_z w32 (of_z w32 y)))) ≡ true → le_z (to_z w32 (of_z w32 (to_z w32 (of_z w32 x) -ℤ to_z w32 (of_z w32 y)))) (pos 15) ≡ true
    → (is_step (id -ℤ previous) ≡ true) × IsStep previous id (nat_abs (to_z w32 (of_z w32 (to_z w32 (of_z w32 x) -ℤ to_z w32 (of_z w32 y)))))
step_of previous id x y p q ex ey low high =
    let x_is : to_z w32 (of_z w32 x) ≡ id = ap (λ (w : ℤ). to_z w32 (of_z w32 w)) (ex ∙ to_z-of_z w16 id q) ∙ to_z-of_z w32 id (wider id q) in
    let y_is : to_z w32 (of_z w32 y) ≡ previous = ap (λ (w : ℤ). to_z w32 (of_z w32 w)) (ey ∙ to_z-of_z w16 previous p) ∙ to_z-of_z w32 previous (wider previous p) in
    let d : to_z w32 (of_z w32 x) -ℤ to_z w32 (of_z w32 y) ≡ id -ℤ previous = ap (λ (w : ℤ). w -ℤ to_z w32 (of_z w32 y)) x_is ∙ ap (λ (w : ℤ). id -ℤ w) y_is in
    let e : to_z w32 (of_z w32 (to_z w32 (of_z w32 x) -ℤ to_z w32 (of_z w32 y))) ≡ id -ℤ previous = ap (λ (w : ℤ). to_z w32 (of_z w32 w)) d ∙ to_z-of_z w32 (id -ℤ previous) (difference id previous q p) in
    both previous id (to_z w32 (of_z w32 (to_z w32 (of_z w32 x) -ℤ to_z w32 (of_z w32 y)))) e low high

-- an i16 that is passed on at 64 bits
pub wide_is : (z x : ℤ) → FitsSigned w16 z → x ≡ to_z w16 (of_z w16 z) → to_z w64 (of_z w64 x) ≡ z
wide_is z x p e =
    let fits : FitsSigned w64 z = record { sfits = omega (arith, p.sfits) } in
    ap (λ (w : ℤ). to_z w64 (of_z w64 w)) (e ∙ to_z-of_z w16 z p) ∙ to_z-of_z w64 z fits

-- ids that are passed on
pub same_step : (previous id : ℤ) (b : Bool) → FitsSigned w16 previous → FitsSigned w16 id → is_step (to_z w16 (of_z w16 id) -ℤ to_z w16 (of_z w16 previous)) ≡ b → is_step (id -ℤ previous) ≡ b
same_step previous id b p q e =
    let d : to_z w16 (of_z w16 id) -ℤ to_z w16 (of_z w16 previous) ≡ id -ℤ previous = ap (λ (w : ℤ). w -ℤ to_z w16 (of_z w16 previous)) (to_z-of_z w16 id q) ∙ ap (λ (w : ℤ). id -ℤ w) (to_z-of_z w16 previous p) in
    subst (λ (w : ℤ). is_step w ≡ b) d e

-- an i32 that is passed on
pub wide_int : (z x : ℤ) → FitsSigned w32 z → x ≡ to_z w32 (of_z w32 z) → to_z w64 (of_z w64 x) ≡ z
wide_int z x p e =
    let fits : FitsSigned w64 z = record { sfits = omega (arith, p.sfits) } in
    ap (λ (w : ℤ). to_z w64 (of_z w64 w)) (e ∙ to_z-of_z w32 z p) ∙ to_z-of_z w64 z fits
