-- Numbers that come once: of lists side by side, and of a list of which a part changes.
use Rattle.std.proofs.Common.{◌≡◌, ◌<◌, ℕ, Bool, true, false, ◌||◌, List, [], ◌∷◌, ◌++◌, refl, sym, ◌∙◌, ap}
use Rattle.std.specs.Prelude.{nat_eq}
use Rattle.std.proofs.lemmas.Bool.{eqb-true, or_parts as neither, or_from as both_false, false_from_ne_true as not_true}
use Rattle.std.proofs.Common.{eq-eqb}
use Rattle.schema.specs.Cutting.{is_among}
use Rattle.schema.specs.Keys.{AreDistinct}

contrary : (b : Bool) → b ≡ true → b ≡ false → ⊥
contrary b e f = let c : true ≡ false = sym e ∙ f in cc

-- ---- who is among

pub among_first : (n : ℕ) (ns : List ℕ) → is_among (n ∷ ns) n ≡ true
among_first n ns = ap (λ (b : Bool). b || is_among ns n) (eq-eqb n n refl)

pub among_later : (m : ℕ) (ns : List ℕ) (n : ℕ) → is_among ns n ≡ true → is_among (m ∷ ns) n ≡ true
among_later m ns n h = by (nat_eq m n) (is_among ns n) h
  where
    by : (a b : Bool) → b ≡ true → (a || b) ≡ true
    by true b e = refl
    by false b e = e

pub among_front : (xs ys : List ℕ) (n : ℕ) → is_among xs n ≡ true → is_among (xs ++ ys) n ≡ true
among_front [] ys n h = absurd (cc)
among_front (x ∷ xs) ys n h = by (nat_eq x n) h (among_front xs ys n)
  where
    by : (b : Bool) → (b || is_among xs n) ≡ true → (is_among xs n ≡ true → is_among (xs ++ ys) n ≡ true) → (b || is_among (xs ++ ys) n) ≡ true
    by true e r = refl
    by false e r = r e

pub among_back : (xs ys : List ℕ) (n : ℕ) → is_among ys n ≡ true → is_among (xs ++ ys) n ≡ true
among_back [] ys n h = h
among_back (x ∷ xs) ys n h = among_later x (xs ++ ys) n (among_back xs ys n h)

pub none_front : (xs ys : List ℕ) (n : ℕ) → is_among (xs ++ ys) n ≡ false → is_among xs n ≡ false
none_front xs ys n h = not_true (is_among xs n) (λ e. contrary (is_among (xs ++ ys) n) (among_front xs ys n e) h)

pub none_back : (xs ys : List ℕ) (n : ℕ) → is_among (xs ++ ys) n ≡ false → is_among ys n ≡ false
none_back xs ys n h = not_true (is_among ys n) (λ e. contrary (is_among (xs ++ ys) n) (among_back xs ys n e) h)

pub none_joined : (xs ys : List ℕ) (n : ℕ) → is_among xs n ≡ false → is_among ys n ≡ false → is_among (xs ++ ys) n ≡ false
none_joined [] ys n e f = f
none_joined (x ∷ xs) ys n e f =
    let p = neither (nat_eq x n) (is_among xs n) e in
    both_false (nat_eq x n) (is_among (xs ++ ys) n) p.0 (none_joined xs ys n p.1 f)

-- ---- lists that share no number

abbrev pub Shares : List ℕ → List ℕ → Type 0
Shares xs ys = (n : ℕ) → is_among xs n ≡ true → is_among ys n ≡ false

pub distinct_joined : (xs ys : List ℕ) → AreDistinct xs → AreDistinct ys → Shares xs ys → AreDistinct (xs ++ ys)
distinct_joined [] ys d e s = e
distinct_joined (x ∷ xs) ys d e s =
    (none_joined xs ys x d.0 (s x (among_first x xs)), distinct_joined xs ys d.1 e (λ n h. s n (among_later x xs n h)))

pub distinct_front : (xs ys : List ℕ) → AreDistinct (xs ++ ys) → AreDistinct xs
distinct_front [] ys d = tt
distinct_front (x ∷ xs) ys d = (none_front xs ys x d.0, distinct_front xs ys d.1)

pub distinct_back : (xs ys : List ℕ) → AreDistinct (xs ++ ys) → AreDistinct ys
distinct_back [] ys d = d
distinct_back (x ∷ xs) ys d = distinct_back xs ys d.1

pub shared_none : (xs ys : List ℕ) → AreDistinct (xs ++ ys) → Shares xs ys
shared_none [] ys d n h = absurd (cc)
shared_none (x ∷ xs) ys d n h = by (nat_eq x n) refl h (shared_none xs ys d.1 n)
  where
    by : (b : Bool) → nat_eq x n ≡ b → (b || is_among xs n) ≡ true → (is_among xs n ≡ true → is_among ys n ≡ false) → is_among ys n ≡ false
    by true e i r = ap (λ (m : ℕ). is_among ys m) (sym (eqb-true x n e)) ∙ none_back xs ys x d.0
    by false e i r = r i

pub shared_back : (xs ys : List ℕ) → Shares xs ys → Shares ys xs
shared_back xs ys s n h = not_true (is_among xs n) (λ e. contrary (is_among ys n) h (s n e))

-- ---- a part that is left, or that comes

-- what is not among the one is not among the other
abbrev pub Within : List ℕ → List ℕ → Type 0
Within xs ys = (n : ℕ) → is_among ys n ≡ false → is_among xs n ≡ false

pub within_so : (xs ys : List ℕ) → Within xs ys → (n : ℕ) → is_among xs n ≡ true → is_among ys n ≡ true
within_so xs ys w n h = by (is_among ys n) refl
  where
    by : (b : Bool) → is_among ys n ≡ b → is_among ys n ≡ true
    by true e = e
    by false e = absurd (contrary (is_among xs n) h (w n e))

-- of the numbers below a floor
abbrev pub WithinBelow : ℕ → List ℕ → List ℕ → Type 0
WithinBelow floor xs ys = (n : ℕ) → n < floor → is_among ys n ≡ false → is_among xs n ≡ false

abbrev pub AllBelow : ℕ → List ℕ → Type 0
AllBelow floor xs = (n : ℕ) → is_among xs n ≡ true → n < floor

pub distinct_within : (xs ys zs : List ℕ) → Within zs ys → AreDistinct zs → AreDistinct (xs ++ ys) → AreDistinct (xs ++ zs)
distinct_within xs ys zs w d e = distinct_joined xs zs (distinct_front xs ys e) d (λ n h. w n (shared_none xs ys e n h))

pub within_joined : (xs ys zs : List ℕ) → Within zs ys → Within (xs ++ zs) (xs ++ ys)
within_joined xs ys zs w n h = none_joined xs zs n (none_front xs ys n h) (w n (none_back xs ys n h))

pub within_later : (xs ys zs : List ℕ) → Within zs ys → Within zs (xs ++ ys)
within_later xs ys zs w n h = w n (none_back xs ys n h)

-- the first part changes
pub distinct_changed : (floor : ℕ) (olds news ys : List ℕ) → AllBelow floor ys → WithinBelow floor news olds → AreDistinct news → AreDistinct (olds ++ ys) → AreDistinct (news ++ ys)
distinct_changed floor olds news ys low w d e =
    distinct_joined news ys d (distinct_back olds ys e)
    (shared_back ys news (λ n h. w n (low n h) (shared_back olds ys (shared_none olds ys e) n h)))

pub within_changed : (floor : ℕ) (olds news ys : List ℕ) → WithinBelow floor news olds → WithinBelow floor (news ++ ys) (olds ++ ys)
within_changed floor olds news ys w n low h = none_joined news ys n (w n low (none_front olds ys n h)) (none_back olds ys n h)

-- the later part changes
pub distinct_later : (floor : ℕ) (xs olds news : List ℕ) → AllBelow floor xs → WithinBelow floor news olds → AreDistinct news → AreDistinct (xs ++ olds) → AreDistinct (xs ++ news)
distinct_later floor xs olds news low w d e = distinct_joined xs news (distinct_front xs olds e) d (λ n h. w n (low n h) (shared_none xs olds e n h))

pub within_back : (floor : ℕ) (xs olds news : List ℕ) → WithinBelow floor news olds → WithinBelow floor (xs ++ news) (xs ++ olds)
within_back floor xs olds news w n low h = none_joined xs news n (none_front xs olds n h) (w n low (none_back xs olds n h))

pub below_front : (floor : ℕ) (xs ys : List ℕ) → AllBelow floor (xs ++ ys) → AllBelow floor xs
below_front floor xs ys low n h = low n (among_front xs ys n h)

pub below_back : (floor : ℕ) (xs ys : List ℕ) → AllBelow floor (xs ++ ys) → AllBelow floor ys
below_back floor xs ys low n h = low n (among_back xs ys n h)
