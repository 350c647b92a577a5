-- How deep the fields of a schema nest, and so the values that JSON shows of it.
use Rattle.std.proofs.Common.{ℕ, zero, suc, ◌≤◌, List, [], ◌∷◌, ◌++◌, length, map, arith}
use Rattle.std.specs.List.{AllByRecursion}
use Rattle.schema.specs.Shape.{Field, leaf, fields, Fields, no_fields, field}
use Rattle.schema.specs.Stripe.{Leaf, leaves, leaves_from, below}
use Rattle.schema.specs.Law.{IsSchema, IsValid, AreValid, IsWithinLimits}
use Rattle.schema.specs.Reading.{tall, tallest}
use Rattle.schema.proofs.Few.{sizes, count_leaves}

-- the ways to these leaves are so short
abbrev AreNear : ℕ → List Leaf → Type 0
AreNear n ls = AllByRecursion (λ (l : Leaf). length l.steps ≤ n) ls

near_both : (n : ℕ) (xs ys : List Leaf) → AreNear n (xs ++ ys) → AreNear n xs × AreNear n ys
near_both n [] ys h = (tt, h)
near_both n (x ∷ xs) ys h = let p = near_both n xs ys h.1 in ((h.0, p.0), p.1)

near_below : (n i : ℕ) (f : Field) (ls : List Leaf) → AreNear (suc n) (map (below i f) ls) → AreNear n ls
near_below n i f [] h = tt
near_below n i f (l ∷ ls) h = (let k = h.0 in omega (arith, k), near_below n i f ls h.1)

far : (i : ℕ) (f : Field) (ls : List Leaf) → 1 ≤ length ls → AreNear 0 (map (below i f) ls) → ⊥
far i f [] some h = omega (arith, some)
far i f (l ∷ ls) some h = let k = h.0 in omega (arith, k)

some_leaf : (f : Field) → IsValid f → 1 ≤ length (leaves f)
some_leaf f h = let k = count_leaves 0 (field f no_fields) (h, tt) in let s = sizes 0 f no_fields in omega (arith, k, s)

mutual
  tall_within : (n : ℕ) (f : Field) → IsValid f → AreNear n (leaves f) → tall f ≤ suc n
  tall_within n (leaf name r t) valid near = omega arith
  tall_within n (fields name r a fs) valid near = let k = tallest_within n 0 fs valid.1 near in omega (arith, k)

  tallest_within : (n i : ℕ) (fs : Fields) → AreValid fs → AreNear n (leaves_from i fs) → tallest fs ≤ n
  tallest_within n i no_fields valid near = omega arith
  tallest_within zero i (field f fs) valid near = absurd (far i f (leaves f) (some_leaf f valid.0) (near_both 0 (map (below i f) (leaves f)) (leaves_from (suc i) fs) near).0)
  tallest_within (suc n) i (field f fs) valid near =
      let p = near_both (suc n) (map (below i f) (leaves f)) (leaves_from (suc i) fs) near in
      let a = tall_within n f valid.0 (near_below n i f (leaves f) p.0) in
      let b = tallest_within (suc n) (suc i) fs valid.1 p.1 in
      omega (arith, a, b)

-- the fields of a schema nest at most 32 deep
pub at_most_32 : (fs : Fields) → IsSchema fs → IsWithinLimits fs → tallest fs ≤ 32
at_most_32 fs valid within = tallest_within 32 0 fs valid.1 within.depth
