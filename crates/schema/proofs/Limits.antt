-- How many leaves a schema has, and how long the ways to them are.
use Rattle.std.proofs.Common.{ℕ, suc, max, ◌≡◌, ◌+◌, ◌-◌, ◌≤◌, List, [], ◌∷◌, ◌++◌, length, map, refl, ap, subst, ◌∙◌, Option, Some, None, ◌<◌, ◌⊎◌, arith, inl, inr, length-append as length-both}
use Rattle.std.specs.Prelude.{ℤ}
use Rattle.std.specs.List.{AllByRecursion}
use Rattle.lists.proofs.Lists.{length_map as length-each, all_append as all-both, all_weaker_on as all-more}
use Rattle.schema.specs.Elements.{Element}
use Rattle.schema.specs.Shape.{Field, leaf, fields, Fields, no_fields, field}
use Rattle.schema.specs.Stripe.{Leaf, leaves, leaves_from, leaves_of, below}
use Rattle.schema.specs.Law.{IsWithinLimits, IsValid, AreValid}
use Rattle.schema.specs.Listing.{Branch, branch, Branches, no_branches, branches, count_branches, depth_first, depth_first_each, HasChildren, IsCounted, AreCounted, IsField, AreFields, one_typed, count_typed, height, height_of, IsTreeOf, IsTooLarge, IsSchemaOf}
use Rattle.schema.specs.Reading.{tall, tallest}
use Rattle.schema.proofs.Trees.{below_is, forest-listing}

typed-both : (xs ys : List Element) → count_typed (xs ++ ys) ≡ count_typed xs + count_typed ys
typed-both [] ys = omega arith
typed-both (x ∷ xs) ys = let h = typed-both xs ys in omega (arith, h)

no_children : (k c : Option ℤ) (z : ℤ) (bs : Branches) → k ≡ Some z → HasChildren k c (count_branches bs) → depth_first_each bs ≡ []
no_children None c z bs e h = cc
no_children (Some t) c z no_branches e h = refl
no_children (Some t) c z (branches b bs) e h = let n = h.0 in absurd (omega (arith, n))

mutual
  leaves_at : (b : Branch) (f : Field) → IsCounted b → IsField b f → length (leaves f) ≡ count_typed (depth_first b)
  leaves_at (branch e bs) (leaf n r t) c h =
      let one : one_typed e.kind ≡ 1 = ap one_typed h.2.there in
      let none : count_typed (depth_first_each bs) ≡ 0 = ap count_typed (no_children e.kind e.num_children h.2.number bs h.2.there c.0) in
      omega (arith, one, none)
  leaves_at (branch e bs) (fields n r a fs) c h =
      let none : one_typed e.kind ≡ 0 = ap one_typed h.2 in
      let all = leaves_each 0 bs fs c.1 h.4 in
      omega (arith, none, all)

  leaves_each : (i : ℕ) (bs : Branches) (fs : Fields) → AreCounted bs → AreFields bs fs → length (leaves_from i fs) ≡ count_typed (depth_first_each bs)
  leaves_each i no_branches no_fields c h = refl
  leaves_each i no_branches (field f fs) c h = absurd h
  leaves_each i (branches b bs) no_fields c h = absurd h
  leaves_each i (branches b bs) (field f fs) c h =
      let here = leaves_at b f c.0 h.0 in
      let rest = leaves_each (suc i) bs fs c.1 h.1 in
      let p = length-both (map (below i f) (leaves f)) (leaves_from (suc i) fs) in
      let q = length-each (below i f) (leaves f) in
      let r = typed-both (depth_first b) (depth_first_each bs) in
      omega (arith, here, rest, p, q, r)

all-each : {A B : Type 0} (f : A → B) (P : B → Type 0) (xs : List A) → AllByRecursion (λ x. P (f x)) xs → AllByRecursion P (map f xs)
all-each f P [] p = tt
all-each f P (x ∷ xs) p = (p.0, all-each f P xs p.1)

longer : (a b c : ℕ) → a ≤ b → a ≤ max c b
longer a b c h = omega (arith, h)

long : (a b c : ℕ) → suc a ≤ c → suc a ≤ max c b
long a b c h = omega (arith, h)

mutual
  deep_at : (f : Field) → AllByRecursion (λ (l : Leaf). suc (length l.steps) ≤ tall f) (leaves f)
  deep_at (leaf n r t) = (omega arith, tt)
  deep_at (fields n r a fs) = all-more (λ (l : Leaf). length l.steps ≤ tallest fs) (λ (l : Leaf). suc (length l.steps) ≤ suc (tallest fs)) (leaves_from 0 fs) (λ l h. omega (arith, h)) (deep_each 0 fs)

  deep_each : (i : ℕ) (fs : Fields) → AllByRecursion (λ (l : Leaf). length l.steps ≤ tallest fs) (leaves_from i fs)
  deep_each i no_fields = tt
  deep_each i (field f fs) =
      all-both (λ (l : Leaf). length l.steps ≤ max (tall f) (tallest fs)) (map (below i f) (leaves f)) (leaves_from (suc i) fs)
      (all-each (below i f) (λ (l : Leaf). length l.steps ≤ max (tall f) (tallest fs)) (leaves f)
      (all-more (λ (l : Leaf). suc (length l.steps) ≤ tall f) (λ (l : Leaf). suc (length l.steps) ≤ max (tall f) (tallest fs)) (leaves f) (λ l h. long (length l.steps) (tallest fs) (tall f) h) (deep_at f)))
      (all-more (λ (l : Leaf). length l.steps ≤ tallest fs) (λ (l : Leaf). length l.steps ≤ max (tall f) (tallest fs)) (leaves_from (suc i) fs) (λ l h. longer (length l.steps) (tallest fs) (tall f) h) (deep_each (suc i) fs))

-- the leaves of valid fields are as deep as the fields
all-parts : {A : Type 0} (P : A → Type 0) (xs ys : List A) → AllByRecursion P (xs ++ ys) → AllByRecursion P xs × AllByRecursion P ys
all-parts P [] ys h = (tt, h)
all-parts P (x ∷ xs) ys h = let parts = all-parts P xs ys h.1 in ((h.0, parts.0), parts.1)

all-under : {A B : Type 0} (f : A → B) (P : B → Type 0) (xs : List A) → AllByRecursion P (map f xs) → AllByRecursion (λ x. P (f x)) xs
all-under f P [] h = tt
all-under f P (x ∷ xs) h = (h.0, all-under f P xs h.1)

tall-some : (f : Field) → 1 ≤ tall f
tall-some (leaf n r t) = omega arith
tall-some (fields n r a fs) = omega arith

mutual
  tall_by : (f : Field) (d : ℕ) → IsValid f → AllByRecursion (λ (l : Leaf). suc (length l.steps) ≤ d) (leaves f) → tall f ≤ d
  tall_by (leaf n r t) d v h = h.0
  tall_by (fields n r a no_fields) d v h = absurd v.0.some
  tall_by (fields n r a (field f fs)) d v h =
      let fewer : ℕ = d - 1 in
      let low = all-more (λ (l : Leaf). suc (length l.steps) ≤ d) (λ (l : Leaf). length l.steps ≤ fewer) (leaves_from 0 (field f fs)) (λ l k. omega (arith, k)) h in
      let rest : tallest (field f fs) ≤ fewer = tallest_by 0 (field f fs) fewer v.1 low in
      let one = tall-some f in
      omega (arith, rest, one)

  tallest_by : (i : ℕ) (fs : Fields) (d : ℕ) → AreValid fs → AllByRecursion (λ (l : Leaf). length l.steps ≤ d) (leaves_from i fs) → tallest fs ≤ d
  tallest_by i no_fields d v h = omega arith
  tallest_by i (field f fs) d v h =
      let parts = all-parts (λ (l : Leaf). length l.steps ≤ d) (map (below i f) (leaves f)) (leaves_from (suc i) fs) h in
      let here = tall_by f d v.0 (all-under (below i f) (λ (l : Leaf). length l.steps ≤ d) (leaves f) parts.0) in
      let rest = tallest_by (suc i) fs d v.1 parts.1 in
      omega (arith, here, rest)

pub tallest_within : (fs : Fields) → AreValid fs → IsWithinLimits fs → tallest fs ≤ 32
tallest_within fs v h = tallest_by 0 fs 32 v h.depth

few_leaves : (es : List Element) (fs : Fields) → IsSchemaOf es fs → length (leaves_of fs) ≡ count_typed es
few_leaves es fs s =
    let all = leaves_each 0 s.below fs s.listed.counted.1 s.stands_for in
    let none : one_typed s.root.kind ≡ 0 = ap one_typed s.listed.group in
    let list : count_typed es ≡ one_typed s.root.kind + count_typed (depth_first_each s.below) = ap count_typed s.listed.listed in
    omega (arith, all, none, list)

pub within : (es : List Element) (fs : Fields) → IsSchemaOf es fs → tallest fs ≤ 32 → count_typed es ≤ 1024 → IsWithinLimits fs
within es fs s short few =
    let n = few_leaves es fs s in
    record {
      leaves = omega (arith, n, few);
      depth = all-more (λ (l : Leaf). length l.steps ≤ tallest fs) (λ (l : Leaf). length l.steps ≤ 32) (leaves_of fs) (λ l h. omega (arith, h, short)) (deep_each 0 fs);
    }

-- ---- a list that stands for a schema within the limits is not too large

no_height : (k c : Option ℤ) (z : ℤ) (bs : Branches) → k ≡ Some z → HasChildren k c (count_branches bs) → height_of bs ≡ 0
no_height None c z bs e h = cc
no_height (Some t) c z no_branches e h = refl
no_height (Some t) c z (branches b bs) e h = let n = h.0 in absurd (omega (arith, n))

mutual
  height_at : (b : Branch) (f : Field) → IsCounted b → IsField b f → height b ≡ tall f
  height_at (branch e bs) (leaf n r t) c h = ap suc (no_height e.kind e.num_children h.2.number bs h.2.there c.0)
  height_at (branch e bs) (fields n r a fs) c h = ap suc (height_each bs fs c.1 h.4)

  height_each : (bs : Branches) (fs : Fields) → AreCounted bs → AreFields bs fs → height_of bs ≡ tallest fs
  height_each no_branches no_fields c h = refl
  height_each no_branches (field f fs) c h = absurd h
  height_each (branches b bs) no_fields c h = absurd h
  height_each (branches b bs) (field f fs) c h = ap (λ (k : ℕ). max k (height_of bs)) (height_at b f c.0 h.0) ∙ ap (max (tall f)) (height_each bs fs c.1 h.1)

pub not_too_large : (es : List Element) (fs : Fields) → IsSchemaOf es fs → tallest fs ≤ 32 → IsWithinLimits fs → IsTooLarge es → ⊥
not_too_large es fs s short few large = beyond large.over
  where
    same : large.below ≡ s.below
    same =
        below_is s.root (depth_first_each s.below) large.root large.below (subst (λ (t : List Element). IsTreeOf t large.root large.below) s.listed.listed large.listed)
        ∙ forest-listing s.below s.listed.counted.1

    high : height_of large.below ≡ tallest fs
    high = ap height_of same ∙ height_each s.below fs s.listed.counted.1 s.stands_for

    beyond : (1024 < count_typed es) ⊎ (32 < height_of large.below) → ⊥
    beyond (inl many) = let n = few_leaves es fs s in let most = few.leaves in omega (arith, n, most, many)
    beyond (inr deep) = omega (arith, high, short, deep)
