-- Bytes in two's complement.
use Rattle.std.proofs.Common.{◌≡◌, ℕ, zero, suc, ◌&&◌, ◌||◌, ◌==◌, nat_lt, nat_le, true, false, true≢false, subst, Bool, ◌+◌, ◌-◌, ◌*◌, ◌^◌, ◌<◌, ◌≤◌, ℤ, pos, negsuc, ◌+ℤ◌, ◌-ℤ◌, ◌*ℤ◌, ◌≤ℤ◌, ◌⊎◌, inl, inr, List, [], ◌∷◌, length, drop, take, neg_ℤ, slice_index, refl, sym, ◌∙◌, ap, arith}
use Rattle.std.proofs.lemmas.Bool.Decides.{nat_tests}
use Rattle.std.proofs.lemmas.List.{drop_all, take_all, length-drop}
use Rattle.std.proofs.Math.Seq.{drop-cons}
use Rattle.std.proofs.Math.Numerals.{add-one}
use Rattle.std.proofs.Math.Nat.{pow-suc, pow-le-pow_right}
use Rattle.jiff_core.specs.Calendar.{IsBetween}
use Rattle.jiff_core.proofs.SignedLemmas.{signed_arith}
use Rattle.valuetext.specs.TwosComplement.{AreByteValues, signed_byte, signed_after, signed_of, repeats_sign, AreShortest, BytesReadBack, ShortestAreFewest}

-- what comes after one number and bytes tells both
pub same_after : (a b : ℤ) (xs ys : List ℕ) → AreByteValues xs → AreByteValues ys → length xs ≡ length ys → signed_after a xs ≡ signed_after b ys → (a ≡ b) × (xs ≡ ys)
unfolding signed_after AreByteValues
same_after a b [] [] p q e h = (h, refl)
same_after a b [] (y ∷ ys) p q e h = absurd (omega (arith, e))
same_after a b (x ∷ xs) [] p q e h = absurd (omega (arith, e))
same_after a b (x ∷ xs) (y ∷ ys) p q e h =
    let rest = same_after (a *ℤ pos 256 +ℤ pos x) (b *ℤ pos 256 +ℤ pos y) xs ys p.1 q.1 (omega (arith, e)) h in
    let number : a ≡ b = omega (arith, signed_arith, rest.0, p.0, q.0) in
    let byte : x ≡ y = omega (arith, signed_arith, rest.0, p.0, q.0) in
    (number, ap (λ z. z ∷ xs) byte ∙ ap (λ zs. y ∷ zs) rest.1)

pub signed_is : (b : ℕ) → b < 256 → ((b < 128) × (signed_byte b ≡ pos b)) ⊎ ((128 ≤ b) × (signed_byte b ≡ pos b -ℤ pos 256))
signed_is b h = grind (arith, nat_tests)

same_byte : (a b : ℕ) → a < 256 → b < 256 → signed_byte a ≡ signed_byte b → a ≡ b
same_byte a b p q e =
    elim (signed_is a p) [
      | inl x ↦ elim (signed_is b q) [ inl y ↦ omega (arith, signed_arith, x, y, e) | inr y ↦ absurd (omega (arith, signed_arith, x, y, e)) ]
      | inr x ↦ elim (signed_is b q) [ inl y ↦ absurd (omega (arith, signed_arith, x, y, e)) | inr y ↦ omega (arith, signed_arith, x, y, e) ]
    ]

pub bytes_read_back : BytesReadBack
unfolding AreByteValues
bytes_read_back [] [] p q e h = refl
bytes_read_back [] (y ∷ ys) p q e h = absurd (omega (arith, e))
bytes_read_back (x ∷ xs) [] p q e h = absurd (omega (arith, e))
bytes_read_back (x ∷ xs) (y ∷ ys) p q e h =
    let rest = same_after (signed_byte x) (signed_byte y) xs ys p.1 q.1 (omega (arith, e)) h in
    ap (λ z. z ∷ xs) (same_byte x y p.0 q.0 rest.0) ∙ ap (λ zs. y ∷ zs) rest.1

-- one more byte keeps the number within its bytes
pub step_within : (n : ℤ) (b i : ℕ) → b < 256 → IsBetween (pos 0 -ℤ pos (128 * 256 ^ i)) (pos (128 * 256 ^ i) -ℤ pos 1) n
    → IsBetween (pos 0 -ℤ pos (128 * 256 ^ (i + 1))) (pos (128 * 256 ^ (i + 1)) -ℤ pos 1) (n *ℤ pos 256 +ℤ pos b)
step_within n b i small h =
    let power : 256 ^ (i + 1) ≡ 256 ^ i * 256 = rw add-one (pow-suc 256 i) in
    omega (arith, signed_arith, h, power)

-- up to 16 bytes are 128 bits
pub power_within : (i : ℕ) → i ≤ 15 → 256 ^ i ≤ 256 ^ 15
power_within i h = pow-le-pow_right {n = 256} (omega arith) h

-- one byte of a list after another
pub byte_on : (n : ℤ) (i : ℕ) (bytes : List ℕ) → i < length bytes → signed_after n (drop i bytes) ≡ signed_after (n *ℤ pos 256 +ℤ pos (slice_index bytes i)) (drop (i + 1) bytes)
unfolding signed_after
byte_on n i bytes h = rw (drop-cons bytes i 0 h, add-one) refl

pub bytes_end : (n : ℤ) (i : ℕ) (bytes : List ℕ) → length bytes ≤ i → signed_after n (drop i bytes) ≡ n
unfolding signed_after
bytes_end n i bytes h = rw (drop_all i bytes h) refl

pub byte_kept : (n x m : ℤ) (i b : ℕ) (bytes : List ℕ) → i < length bytes → b ≡ slice_index bytes i → x ≡ n *ℤ pos 256 +ℤ pos b → signed_after n (drop i bytes) ≡ m
    → signed_after x (drop (i + 1) bytes) ≡ m
byte_kept n x m i b bytes h e f inv =
    ap (λ z. signed_after z (drop (i + 1) bytes)) (f ∙ ap (λ c. n *ℤ pos 256 +ℤ pos c) e) ∙ sym (byte_on n i bytes h) ∙ inv

pub within_kept : (n x : ℤ) (i b : ℕ) → b < 256 → x ≡ n *ℤ pos 256 +ℤ pos b → IsBetween (pos 0 -ℤ pos (128 * 256 ^ i)) (pos (128 * 256 ^ i) -ℤ pos 1) n
    → IsBetween (pos 0 -ℤ pos (128 * 256 ^ (i + 1))) (pos (128 * 256 ^ (i + 1)) -ℤ pos 1) x
within_kept n x i b small e inv = rw e (step_within n b i small inv)

-- a number of fewer than 15 bytes can take one more
pub room_for : (n : ℤ) (i : ℕ) → i ≤ 14 → IsBetween (pos 0 -ℤ pos (128 * 256 ^ i)) (pos (128 * 256 ^ i) -ℤ pos 1) n → IsBetween (negsuc (2 ^ 119 - 1)) (pos (2 ^ 119 - 1)) n
room_for n i h inv =
    let most : 256 ^ i ≤ 256 ^ 14 = pow-le-pow_right {n = 256} (omega arith) h in
    (omega (arith, signed_arith, inv.0, most), omega (arith, signed_arith, inv.1, most))

-- the number of the first byte and those after it
pub number_done : (bytes : List ℕ) (n m : ℤ) (i : ℕ) → 1 ≤ length bytes → signed_after n (drop i (take (length bytes - 1) (drop 1 bytes))) ≡ signed_after m (take (length bytes - 1) (drop 1 bytes))
    → length (take (length bytes - 1) (drop 1 bytes)) ≤ i → m ≡ signed_byte (slice_index bytes 0) → n ≡ signed_of bytes
number_done [] n m i some inv done e = absurd (omega (arith, some))
number_done (b ∷ bytes) n m i some inv done e =
    let rest : take (length (b ∷ bytes) - 1) (drop 1 (b ∷ bytes)) ≡ bytes = take_all _ bytes (omega arith) in
    sym (bytes_end n i _ done) ∙ inv ∙ ap (λ xs. signed_after m xs) rest ∙ ap (λ z. signed_after z bytes) e

-- a number without bytes yet
pub after_none : (x : ℤ) (xs : List ℕ) → xs ≡ [] → signed_after x xs ≡ x
unfolding signed_after
after_none x xs e = rw e refl

pub none_are : (xs : List ℕ) → xs ≡ [] → AreByteValues xs
unfolding AreByteValues
none_are xs e = rw e tt

pub one_are : (b : ℕ) (xs ys : List ℕ) → ys ≡ b ∷ xs → b < 256 → AreByteValues xs → AreByteValues ys
unfolding AreByteValues
one_are b xs ys e small all = rw e (small, all)

pub put_before : (x rest m : ℤ) (b : ℕ) (xs ys : List ℕ) → ys ≡ b ∷ xs → rest ≡ x *ℤ pos 256 +ℤ pos b → signed_after rest xs ≡ m → signed_after x ys ≡ m
unfolding signed_after
put_before x rest m b xs ys e f inv = rw (e, ← f) inv

-- bytes of that length would begin with what is left
pub too_few : (rest m : ℤ) (xs ys : List ℕ) → AreByteValues xs → AreByteValues ys → length ys ≡ length xs + 1 → signed_after rest xs ≡ m → signed_of ys ≡ m → (neg_ℤ (pos 128) ≤ℤ rest) × (rest ≤ℤ pos 127)
unfolding AreByteValues
too_few rest m xs [] p q e f g = absurd (omega (arith, e))
too_few rest m xs (y ∷ ys) p q e f g =
    let same = same_after rest (signed_byte y) xs ys p q.1 (omega (arith, e)) (f ∙ sym g) in
    elim (signed_is y q.0) [
      | inl a ↦ (omega (arith, signed_arith, same.0, a), omega (arith, signed_arith, same.0, a))
      | inr a ↦ (omega (arith, signed_arith, same.0, a, q.0), omega (arith, signed_arith, same.0, a, q.0))
    ]

-- ---- the shortest bytes

-- what is before the bytes cannot be left out: with the first of them it is more than one byte
abbrev pub IsNeeded : ℤ → List ℕ → Type 0
IsNeeded rest [] = Unit {0}
IsNeeded rest (b ∷ bytes) = IsBetween (neg_ℤ (pos 128)) (pos 127) (rest *ℤ pos 256 +ℤ pos b) → ⊥

pub none_needed : (rest : ℤ) (xs : List ℕ) → xs ≡ [] → IsNeeded rest xs
none_needed rest xs e = rw e tt

pub one_needed : (rest x : ℤ) (b : ℕ) (xs ys : List ℕ) → ys ≡ b ∷ xs → rest ≡ x *ℤ pos 256 +ℤ pos b → (IsBetween (neg_ℤ (pos 128)) (pos 127) rest → ⊥) → IsNeeded x ys
one_needed rest x b xs ys e f large = rw (e, ← f) large

-- a number within its bytes leaves one within a byte less
pub less_within : (n x : ℤ) (b i j : ℕ) → i ≡ j + 1 → b < 256 → n ≡ x *ℤ pos 256 +ℤ pos b → IsBetween (pos 0 -ℤ pos (128 * 256 ^ i)) (pos (128 * 256 ^ i) -ℤ pos 1) n
    → IsBetween (pos 0 -ℤ pos (128 * 256 ^ j)) (pos (128 * 256 ^ j) -ℤ pos 1) x
less_within n x b i j e small f h =
    let power : 256 ^ i ≡ 256 ^ j * 256 = rw (e, add-one) (pow-suc 256 j) in
    (omega (arith, signed_arith, h.0, power, f, small), omega (arith, signed_arith, h.1, power, f, small))

-- no byte less is one byte
pub last_within : (n : ℤ) (i : ℕ) → 15 ≤ i → IsBetween (pos 0 -ℤ pos (128 * 256 ^ (15 - i))) (pos (128 * 256 ^ (15 - i)) -ℤ pos 1) n → IsBetween (neg_ℤ (pos 128)) (pos 127) n
last_within n i h inv =
    let none : 15 - i ≡ 0 = omega (arith, h) in
    subst (λ j. IsBetween (pos 0 -ℤ pos (128 * 256 ^ j)) (pos (128 * 256 ^ j) -ℤ pos 1) n) none inv

-- a byte before others that is a number of one byte
pub one_before : (rest x m : ℤ) (b : ℕ) (xs ys : List ℕ) → ys ≡ b ∷ xs → IsBetween (neg_ℤ (pos 128)) (pos 127) rest → rest ≡ x *ℤ pos 256 +ℤ pos b → b < 256 → signed_after rest xs ≡ m → signed_of ys ≡ m
one_before rest x m b xs ys e one f small inv = rw e (ap (λ z. signed_after z xs) (byte_is rest x b one f small) ∙ inv)
  where
    byte_is : (rest x : ℤ) (b : ℕ) → IsBetween (neg_ℤ (pos 128)) (pos 127) rest → rest ≡ x *ℤ pos 256 +ℤ pos b → b < 256 → signed_byte b ≡ rest
    byte_is rest x b one f small =
        elim (signed_is b small) [
          | inl a ↦ omega (arith, signed_arith, a, one, f, small)
          | inr a ↦ omega (arith, signed_arith, a, one, f, small)
        ]

-- a byte before bytes that need it
sign_kept : (rest x : ℤ) (b : ℕ) (xs : List ℕ) → IsBetween (neg_ℤ (pos 128)) (pos 127) rest → rest ≡ x *ℤ pos 256 +ℤ pos b → b < 256 → AreByteValues xs → IsNeeded rest xs → repeats_sign (b ∷ xs) ≡ false
unfolding AreByteValues
sign_kept rest x b [] one e small all needed = refl
sign_kept rest x b (c ∷ xs) one e small all needed = grind (arith, signed_arith, nat_tests)

-- more bytes leave a number that is no byte none
stays_large : (n : ℤ) (us : List ℕ) → AreByteValues us → IsBetween (neg_ℤ (pos 128)) (pos 127) (signed_after n us) → IsBetween (neg_ℤ (pos 128)) (pos 127) n
unfolding signed_after AreByteValues
stays_large n [] all h = h
stays_large n (u ∷ us) all h =
    let more = stays_large (n *ℤ pos 256 +ℤ pos u) us all.1 h in
    (omega (arith, signed_arith, more.0, more.1, all.0), omega (arith, signed_arith, more.0, more.1, all.0))

-- bytes go on after their first ones
pub after_first : (n : ℤ) (k : ℕ) (xs : List ℕ) → signed_after n xs ≡ signed_after (signed_after n (take k xs)) (drop k xs)
unfolding signed_after
after_first n zero xs = refl
after_first n (suc k) [] = refl
after_first n (suc k) (x ∷ xs) = after_first (n *ℤ pos 256 +ℤ pos x) k xs

taken_all : (k : ℕ) (xs : List ℕ) → AreByteValues xs → AreByteValues (take k xs)
unfolding AreByteValues
taken_all zero xs all = tt
taken_all (suc k) [] all = tt
taken_all (suc k) (x ∷ xs) all = (all.0, taken_all k xs all.1)

dropped_all : (k : ℕ) (xs : List ℕ) → AreByteValues xs → AreByteValues (drop k xs)
unfolding AreByteValues
dropped_all zero xs all = all
dropped_all (suc k) [] all = tt
dropped_all (suc k) (x ∷ xs) all = dropped_all k xs all.1

-- two bytes that are one repeat the sign
is_repeated : (x u : ℕ) (xs : List ℕ) → x < 256 → u < 256 → IsBetween (neg_ℤ (pos 128)) (pos 127) (signed_byte x *ℤ pos 256 +ℤ pos u) → repeats_sign (x ∷ (u ∷ xs)) ≡ true
is_repeated x u xs p q h = grind (arith, signed_arith, nat_tests)

one_byte : (b : ℕ) → b < 256 → IsBetween (neg_ℤ (pos 128)) (pos 127) (signed_byte b)
one_byte b h =
    elim (signed_is b h) [
      | inl a ↦ (omega (arith, signed_arith, a), omega (arith, signed_arith, a))
      | inr a ↦ (omega (arith, signed_arith, a, h), omega (arith, signed_arith, a, h))
    ]

-- bytes that do not repeat the sign are no longer than others after whose first byte the same number comes
not_longer : (x y k : ℕ) (xs ys : List ℕ) → x < 256 → y < 256 → AreByteValues xs → AreByteValues ys → repeats_sign (x ∷ xs) ≡ false → length xs ≡ suc k + length ys → signed_after (signed_byte x) xs ≡ signed_after (signed_byte y) ys → ⊥
unfolding signed_after AreByteValues
not_longer x y k [] ys p q all others first long same = absurd (omega (arith, long))
not_longer x y k (u ∷ us) ys p q all others first long same =
    let n = signed_byte x *ℤ pos 256 +ℤ pos u in
    let tail = same_after (signed_after n (take k us)) (signed_byte y) (drop k us) ys (dropped_all k us all.1) others (omega (arith, long, length-drop k us)) (sym (after_first n k us) ∙ same) in
    let one : IsBetween (neg_ℤ (pos 128)) (pos 127) (signed_after n (take k us)) = subst (IsBetween (neg_ℤ (pos 128)) (pos 127)) (sym tail.0) (one_byte y q) in
    let small = stays_large n (take k us) (taken_all k us all.1) one in
    true≢false (sym (is_repeated x u us p all.0 small) ∙ first)

fewest : (a b : List ℕ) → AreByteValues a → AreByteValues b → AreShortest a → 1 ≤ length b → signed_of a ≡ signed_of b → length b < length a → ⊥
unfolding AreByteValues
fewest [] b p q short some same less = omega (arith, short.0)
fewest (x ∷ xs) [] p q short some same less = omega (arith, some)
fewest (x ∷ xs) (y ∷ ys) p q short some same less = not_longer x y (length xs - length ys - 1) xs ys p.0 q.0 p.1 q.1 short.1 (omega (arith, less)) same

at_most : (m n : ℕ) → (n < m → ⊥) → m ≤ n
at_most m n h = grind (arith, h)

pub shortest_are_fewest : ShortestAreFewest
shortest_are_fewest a b p q short some same =
    let few = at_most (length a) (length b) (fewest a b p q short some same) in
    (few, λ other. bytes_read_back a b p q (omega (arith, few, other)) same)

-- a byte before bytes that need it makes the shortest
pub shortest_made : (rest x : ℤ) (b : ℕ) (xs ys : List ℕ) → ys ≡ b ∷ xs → IsBetween (neg_ℤ (pos 128)) (pos 127) rest → rest ≡ x *ℤ pos 256 +ℤ pos b → b < 256 → AreByteValues xs → IsNeeded rest xs → AreShortest ys
shortest_made rest x b xs ys e one f small all needed = rw e (omega arith, sign_kept rest x b xs one f small all needed)
