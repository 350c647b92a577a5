-- Values that stand one behind the other: the loop over them, and that there is one list of them.
use Rattle.std.proofs.Common.{◌≡◌, ℕ, ◌+◌, ◌<◌, ◌≤◌, List, [], ◌∷◌, ◌++◌, length, drop, refl, sym, ap, subst, ◌∙◌, arith, append_assoc}
use Rattle.std.proofs.lemmas.List.{drop-drop, append-nil, length-drop}
use Rattle.bits.specs.Codec.{NothingStands, IsFunctional, InTurn, AreInTurn}
use Rattle.bits.proofs.Loops.{Continues}
use Rattle.bits.proofs.Loops as loops

-- a front of the bytes is at most one list of n values
pub one_turn : {Y : Type 0} (Each : List ℕ → Y → ℕ → Type 0) → IsFunctional Each → (n : ℕ) → IsFunctional (AreInTurn Each n)
one_turn {Y} Each one n = λ bytes ys zs used taken p q. go ys zs bytes used taken (p.0 ∙ sym q.0) p.1 q.1
  where
    go : (ys zs : List Y) (bytes : List ℕ) (used taken : ℕ) → length ys ≡ length zs → InTurn Each bytes ys used → InTurn Each bytes zs taken → (ys ≡ zs) × (used ≡ taken)
    go [] [] bytes used taken same p q = (refl, p ∙ sym q)
    go [] (z ∷ zs) bytes used taken same p q = absurd (omega (arith, same))
    go (y ∷ ys) [] bytes used taken same p q = absurd (omega (arith, same))
    go (y ∷ ys) (z ∷ zs) bytes used taken same p q =
        let o = one bytes y z p.0 q.0 p.2 q.2 in
        let rest : InTurn Each (drop p.0 bytes) zs q.1 = subst (λ (n : ℕ). InTurn Each (drop n bytes) zs q.1) (sym o.1) q.3 in
        let more = go ys zs (drop p.0 bytes) p.1 q.1 (omega (arith, same)) p.3 rest in
        (cc (o.0, more.0), omega (arith, p.4, q.4, o.1, more.1))

-- `done` of n values, `front`, are read up to `at`
abbrev pub Turning : {Y : Type 0} → (List ℕ → Y → ℕ → Type 0) → ℕ → List ℕ → ℕ → ℕ → List Y → Type 0
Turning {Y} Each n bytes done at front = Continues (λ (tail : List Y) (v : ℕ). (done + length tail ≡ n) × InTurn Each (drop at bytes) tail v) (AreInTurn Each n bytes) (λ (tail : List Y). front ++ tail) at

-- one more value is read
step : {Y : Type 0} (Each : List ℕ → Y → ℕ → Type 0) (n : ℕ) (bytes : List ℕ) (done at : ℕ) (y : Y) (u : ℕ) → IsFunctional Each → done < n → Each (drop at bytes) y u
    → Continues (λ (tail : List Y) (v : ℕ). (done + 1 + length tail ≡ n) × InTurn Each (drop (at + u) bytes) tail v) (λ (tail : List Y) (v : ℕ). (done + length tail ≡ n) × InTurn Each (drop at bytes) tail v) (λ (tail : List Y). y ∷ tail) u
step {Y} Each n bytes done at y u one more stands = record {
  forward = λ tail v p. (omega (arith, p.0), (u, v, stands, subst (λ (b : List ℕ). InTurn Each b tail v) (sym (drop-drop u at bytes)) p.1, refl));
  backward = λ whole v p. back whole v p.0 p.1;
}
  where
    back : (whole : List Y) (v : ℕ) → done + length whole ≡ n → InTurn Each (drop at bytes) whole v
        → (tail : List Y) × ((rest : ℕ) × ((done + 1 + length tail ≡ n) × InTurn Each (drop (at + u) bytes) tail rest) × (whole ≡ y ∷ tail) × (v ≡ u + rest))
    back [] v size p = absurd (omega (arith, size, more))
    back (z ∷ tail) v size p =
        let o = one (drop at bytes) z y p.0 u p.2 stands in
        let rest : InTurn Each (drop (at + u) bytes) tail p.1 = subst (λ (b : List ℕ). InTurn Each b tail p.1) (ap (λ (k : ℕ). drop k (drop at bytes)) o.1 ∙ drop-drop u at bytes) p.3 in
        (tail, (p.1, (omega (arith, size), rest), ap (λ (w : Y). w ∷ tail) o.0, omega (arith, p.4, o.1)))

pub turning_goes_on : {Y : Type 0} (Each : List ℕ → Y → ℕ → Type 0) (n : ℕ) (bytes : List ℕ) (done at : ℕ) (front : List Y) (y : Y) (u : ℕ) → IsFunctional Each → done < n → Each (drop at bytes) y u
    → Turning Each n bytes done at front → Turning Each n bytes (done + 1) (at + u) (front ++ y ∷ [])
turning_goes_on {Y} Each n bytes done at front y u one more stands so_far =
    let Rest = λ (tail : List Y) (v : ℕ). (done + length tail ≡ n) × InTurn Each (drop at bytes) tail v in
    let After = λ (tail : List Y) (v : ℕ). (done + 1 + length tail ≡ n) × InTurn Each (drop (at + u) bytes) tail v in
    let c = loops.goes_on Rest After (AreInTurn Each n bytes) (λ (tail : List Y). front ++ tail) (λ (tail : List Y). y ∷ tail) at u so_far (step Each n bytes done at y u one more stands) in
    record {
      forward = λ tail v p. subst (λ (ys : List Y). AreInTurn Each n bytes ys (at + u + v)) (sym (append_assoc front (y ∷ []) tail)) (c.forward tail v p);
      backward = λ whole v p. let b = c.backward whole v p in (b.0, (b.1.0, b.1.1, b.1.2 ∙ sym (append_assoc front (y ∷ []) b.0), b.1.3));
    }

-- all are read
pub turning_ends : {Y : Type 0} (Each : List ℕ → Y → ℕ → Type 0) (n : ℕ) (bytes : List ℕ) (at : ℕ) (front : List Y) → Turning Each n bytes n at front → AreInTurn Each n bytes front at
turning_ends {Y} Each n bytes at front so_far =
    let e = loops.ends (λ (tail : List Y) (v : ℕ). (n + length tail ≡ n) × InTurn Each (drop at bytes) tail v) (AreInTurn Each n bytes) (λ (tail : List Y). front ++ tail) at [] so_far (omega arith, refl) in
    subst (λ (ys : List Y). AreInTurn Each n bytes ys at) (append-nil front) e

-- the next value does not stand there
pub turning_none : {Y : Type 0} (Each : List ℕ → Y → ℕ → Type 0) (n : ℕ) (bytes : List ℕ) (done at : ℕ) (front : List Y) → done < n → NothingStands (Each (drop at bytes)) → Turning Each n bytes done at front → NothingStands (AreInTurn Each n bytes)
turning_none {Y} Each n bytes done at front more nothing so_far =
    loops.none (λ (tail : List Y) (v : ℕ). (done + length tail ≡ n) × InTurn Each (drop at bytes) tail v) (AreInTurn Each n bytes) (λ (tail : List Y). front ++ tail) at so_far (λ tail v p. empty tail v p.0 p.1)
  where
    empty : (tail : List Y) (v : ℕ) → done + length tail ≡ n → InTurn Each (drop at bytes) tail v → ⊥
    empty [] v size p = omega (arith, size, more)
    empty (y ∷ tail) v size p = nothing y p.0 p.2

-- one more value behind those that stand
pub turn_push : {Y : Type 0} (Each : List ℕ → Y → ℕ → Type 0) (ys : List Y) (y : Y) (bytes : List ℕ) (u v : ℕ) → InTurn Each bytes ys u → Each (drop u bytes) y v → InTurn Each bytes (ys ++ y ∷ []) (u + v)
turn_push {Y} Each [] y bytes u v p stands = (v, 0, subst (λ (n : ℕ). Each (drop n bytes) y v) p stands, refl, omega (arith, p))
turn_push {Y} Each (x ∷ ys) y bytes u v p stands =
    let e : drop p.1 (drop p.0 bytes) ≡ drop u bytes = drop-drop p.1 p.0 bytes ∙ ap (λ (n : ℕ). drop n bytes) (sym p.4) in
    (p.0, p.1 + v, p.2, turn_push Each ys y (drop p.0 bytes) p.1 v p.3 (subst (λ (b : List ℕ). Each b y v) (sym e) stands), omega (arith, p.4))

-- what stands in turn lies within the bytes
pub turn_within : {Y : Type 0} (Each : List ℕ → Y → ℕ → Type 0) → ((bytes : List ℕ) (y : Y) (u : ℕ) → Each bytes y u → u ≤ length bytes) → (ys : List Y) (bytes : List ℕ) (used : ℕ) → InTurn Each bytes ys used → used ≤ length bytes
turn_within Each within [] bytes used p = omega (arith, p)
turn_within Each within (y ∷ ys) bytes used p = omega (arith, p.4, within bytes y p.0 p.2, turn_within Each within ys (drop p.0 bytes) p.1 p.3, length-drop p.0 bytes)
