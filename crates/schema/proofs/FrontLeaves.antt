-- The leaves of the first fields.
use Rattle.std.proofs.Common.{◌≡◌, ℕ, zero, suc, ◌+◌, ◌≤◌, ◌++◌, length, map, take, refl, ap, sym, subst, ◌∙◌, arith, add-zero, append_assoc, length-append}
use Rattle.std.proofs.Math.Seq.{take-append_seam}
use Rattle.lists.proofs.Lists.{length_map as length_mapped}
use Rattle.schema.specs.Shape.{Field, leaf, fields, Fields, no_fields, field, count}
use Rattle.schema.specs.Stripe.{leaves, leaves_from, below}
use Rattle.schema.specs.Law.{IsGroupOf, IsValid, AreValid}
use Rattle.schema.specs.Fronts.{first_fields, fields_after, FrontsHaveFirstLeaves, LeavesTellFronts}

-- the leaves are those of the first fields and those of the others
pub leaves_split : (n i : ℕ) (fs : Fields) → leaves_from i fs ≡ leaves_from i (first_fields n fs) ++ leaves_from (i + n) (fields_after n fs)
leaves_split zero i fs = ap (λ (k : ℕ). leaves_from k fs) (sym (add-zero i))
leaves_split (suc n) i no_fields = refl
leaves_split (suc n) i (field f fs) =
    let e : suc i + n ≡ i + suc n = omega arith in
    let later = subst (λ (k : ℕ). leaves_from (suc i) fs ≡ leaves_from (suc i) (first_fields n fs) ++ leaves_from k (fields_after n fs)) e (leaves_split n (suc i) fs) in
    ap (λ ls. map (below i f) (leaves f) ++ ls) later ∙ sym (append_assoc (map (below i f) (leaves f)) (leaves_from (suc i) (first_fields n fs)) (leaves_from (i + suc n) (fields_after n fs)))

pub fronts_have_first_leaves : FrontsHaveFirstLeaves
fronts_have_first_leaves n fs =
    let first = leaves_from 0 (first_fields n fs) in
    sym (ap (take (length first)) (leaves_split n 0 fs) ∙ take-append_seam first (leaves_from (0 + n) (fields_after n fs)))

-- a field has a leaf
mutual
  pub leaf_some : (f : Field) → IsValid f → 1 ≤ length (leaves f)
  leaf_some (leaf n r t) v = omega arith
  leaf_some (fields n r a fs) v = leaves_some 0 fs v.0 v.1

  pub leaves_some : (i : ℕ) (fs : Fields) → IsGroupOf fs → AreValid fs → 1 ≤ length (leaves_from i fs)
  leaves_some i no_fields g v = absurd g.some
  leaves_some i (field f fs) g v = omega (arith, leaf_some f v.0, length_mapped (below i f) (leaves f), length-append (map (below i f) (leaves f)) (leaves_from (suc i) fs))

-- with more fields there are more leaves
one_front : (n m i : ℕ) (fs : Fields) → AreValid fs → n ≤ count fs → m ≤ count fs → length (leaves_from i (first_fields n fs)) ≡ length (leaves_from i (first_fields m fs)) → n ≡ m
one_front zero zero i fs v p q e = refl
one_front zero (suc m) i no_fields v p q e = absurd (omega (arith, q))
one_front zero (suc m) i (field f fs) v p q e = absurd (omega (arith, e, leaf_some f v.0, length_mapped (below i f) (leaves f), length-append (map (below i f) (leaves f)) (leaves_from (suc i) (first_fields m fs))))
one_front (suc n) m i no_fields v p q e = absurd (omega (arith, p))
one_front (suc n) zero i (field f fs) v p q e = absurd (omega (arith, e, leaf_some f v.0, length_mapped (below i f) (leaves f), length-append (map (below i f) (leaves f)) (leaves_from (suc i) (first_fields n fs))))
one_front (suc n) (suc m) i (field f fs) v p q e =
    let same : length (leaves_from (suc i) (first_fields n fs)) ≡ length (leaves_from (suc i) (first_fields m fs))
    = omega (arith, e, length-append (map (below i f) (leaves f)) (leaves_from (suc i) (first_fields n fs)), length-append (map (below i f) (leaves f)) (leaves_from (suc i) (first_fields m fs))) in
    ap suc (one_front n m (suc i) fs v.1 (omega (arith, p)) (omega (arith, q)) same)

pub leaves_tell_fronts : LeavesTellFronts
leaves_tell_fronts n m fs v p q e = one_front n m 0 fs v.1 p q e
