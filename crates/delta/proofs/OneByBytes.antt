-- A front of the bytes stands for at most one list of byte values.
use Rattle.std.proofs.Common.{◌≡◌, ℕ, List, [], ◌∷◌, ◌++◌, length, take, drop, map, refl, sym, ap, subst, ◌∙◌, arith, append_assoc}
use Rattle.std.specs.Prelude.{pos}
use Rattle.std.specs.List.{concat}
use Rattle.std.specs.Int.{w32}
use Rattle.std.proofs.lemmas.List.{take_at, drop_at}
use Rattle.bits.specs.Codec.{IsFunctional}
use Rattle.delta.specs.ByteDeltas.{sizes, IsByteLengths, AreCompleted, IsPrefixed}
use Rattle.delta.proofs.One.{one_delta}

-- values of the same lengths that are joined to the front of the same bytes
same_values : (xs ys : List (List ℕ)) (r s : List ℕ) → sizes xs ≡ sizes ys → concat xs ++ r ≡ concat ys ++ s → xs ≡ ys
same_values [] [] r s counts joined = refl
same_values [] (y ∷ ys) r s counts joined = cc
same_values (x ∷ xs) [] r s counts joined = cc
same_values (x ∷ xs) (y ∷ ys) r s counts joined =
    let size : length x ≡ length y = cc in
    let left : x ++ (concat xs ++ r) ≡ y ++ (concat ys ++ s) = sym (append_assoc x (concat xs) r) ∙ joined ∙ append_assoc y (concat ys) s in
    let here : x ≡ y = sym (take_at x (concat xs ++ r) (length x) refl) ∙ ap (λ (t : List ℕ). take (length x) t) left ∙ take_at y (concat ys ++ s) (length x) (sym size) in
    let rest : concat xs ++ r ≡ concat ys ++ s = sym (drop_at x (concat xs ++ r) (length x) refl) ∙ ap (λ (t : List ℕ). drop (length x) t) left ∙ drop_at y (concat ys ++ s) (length x) (sym size) in
    let counts_left : sizes xs ≡ sizes ys = cc in
    let others : xs ≡ ys = same_values xs ys r s counts_left rest in
    cc (here, others)

pub one_lengths : (n : ℕ) → IsFunctional (λ bytes. IsByteLengths bytes n)
one_lengths n = λ bytes xs ys u v p q.
    let o = one_delta w32 n bytes (sizes xs) (sizes ys) p.at q.at p.lengths q.lengths in
    let joined : concat xs ++ p.rest ≡ concat ys ++ q.rest = sym p.joined ∙ ap (λ (k : ℕ). drop k bytes) o.1 ∙ q.joined in
    let same : xs ≡ ys = same_values xs ys p.rest q.rest o.0 joined in
    (same, omega (arith, p.ends, q.ends, o.1, ap (λ (zs : List (List ℕ)). length (concat zs)) same))

one_completion : (before : List ℕ) (ps : List ℕ) (ss vs ws : List (List ℕ)) → AreCompleted before ps ss vs → AreCompleted before ps ss ws → vs ≡ ws
one_completion before [] [] [] [] p q = refl
one_completion before [] [] [] (w ∷ ws) p q = absurd q
one_completion before [] [] (v ∷ vs) ws p q = absurd p
one_completion before [] (s ∷ ss) vs ws p q = absurd p
one_completion before (a ∷ ps) [] vs ws p q = absurd p
one_completion before (a ∷ ps) (s ∷ ss) [] ws p q = absurd p
one_completion before (a ∷ ps) (s ∷ ss) (v ∷ vs) [] p q = absurd q
one_completion before (a ∷ ps) (s ∷ ss) (v ∷ vs) (w ∷ ws) p q =
    let here : v ≡ w = p.1 ∙ sym q.1 in
    let rest : vs ≡ ws = one_completion v ps ss vs ws p.2 (subst (λ (t : List ℕ). AreCompleted t ps ss ws) (sym here) q.2) in
    cc (here, rest)

same_naturals : (xs ys : List ℕ) → map pos xs ≡ map pos ys → xs ≡ ys
same_naturals [] [] same = refl
same_naturals [] (y ∷ ys) same = cc
same_naturals (x ∷ xs) [] same = cc
same_naturals (x ∷ xs) (y ∷ ys) same =
    let here : x ≡ y = cc in
    let left : map pos xs ≡ map pos ys = cc in
    let rest : xs ≡ ys = same_naturals xs ys left in
    cc (here, rest)

pub one_prefixed : (n : ℕ) → IsFunctional (λ bytes. IsPrefixed bytes n)
one_prefixed n = λ bytes xs ys u v p q.
    let o = one_delta w32 n bytes (map pos p.prefixes) (map pos q.prefixes) p.at q.at p.shared q.shared in
    let prefixes : p.prefixes ≡ q.prefixes = same_naturals p.prefixes q.prefixes o.0 in
    let moved : IsByteLengths (drop p.at bytes) n q.suffixes q.rest = subst (λ (k : ℕ). IsByteLengths (drop k bytes) n q.suffixes q.rest) (sym o.1) q.others in
    let s = one_lengths n (drop p.at bytes) p.suffixes q.suffixes p.rest q.rest p.others moved in
    let one : AreCompleted [] p.prefixes q.suffixes ys = subst (λ (t : List ℕ). AreCompleted [] t q.suffixes ys) (sym prefixes) q.completed in
    let two : AreCompleted [] p.prefixes p.suffixes ys = subst (λ (t : List (List ℕ)). AreCompleted [] p.prefixes t ys) (sym s.0) one in
    (one_completion [] p.prefixes p.suffixes xs ys p.completed two, omega (arith, p.ends, q.ends, o.1, s.1))
