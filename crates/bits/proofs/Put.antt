-- Numbers that are put one bit after the other.
use Rattle.std.proofs.Common.{◌≡◌, ℕ, zero, suc, ◌+◌, ◌-◌, ◌*◌, ◌/◌, ◌%◌, ◌^◌, ◌<◌, ◌≤◌, List, [], ◌∷◌, ◌++◌, length, get_or, take, drop, refl, sym, ap, ◌∙◌, arith, add-one, append_assoc}
use Rattle.std.specs.Prelude.{◌≢◌}
use Rattle.std.proofs.lemmas.List.{nil_from_length, drop-drop, append-nil, length-append, take_at, drop_at, get_or-append_right}
use Rattle.std.proofs.lemmas.Nat.{shr-shr, shl_whole, and_mask}
use Rattle.std.proofs.Math.Nat.{pow-suc}
use Rattle.std.proofs.Math.Pow.{pow_mono}
use Rattle.std.specs.Int.Bits.{bit_and}
use Rattle.bits.specs.Codec.{Appends}
use Rattle.bits.specs.Bits.{bits, number, IsPacked, IsPadded, packed_size}
use Rattle.bits.proofs.BitLists.{length-bits, number_push, number_bound, bits-append, whole_byte}

-- the w low bits of a number
abbrev pub bits_of : ℕ → ℕ → List ℕ
bits_of zero x = []
bits_of (suc w) x = (x % 2) ∷ bits_of w (x / 2)

pub length-bits_of : (w x : ℕ) → length (bits_of w x) ≡ w
length-bits_of zero x = refl
length-bits_of (suc w) x = ap suc (length-bits_of w (x / 2))

halves : (x k : ℕ) → x / 2 / 2 ^ k ≡ x / 2 ^ suc k
halves x k = shr-shr x 1 k ∙ ap (λ (j : ℕ). x / 2 ^ j) (let e : 1 + k ≡ suc k = omega arith in e)

bits_of_suc : (w x : ℕ) → bits_of (suc w) x ≡ bits_of w x ++ (x / 2 ^ w % 2) ∷ []
bits_of_suc zero x = ap (λ (b : ℕ). b ∷ []) (omega arith)
bits_of_suc (suc w) x = ap (λ (t : List ℕ). (x % 2) ∷ t) (bits_of_suc w (x / 2) ∙ ap (λ (b : ℕ). bits_of w (x / 2) ++ (b % 2) ∷ []) (halves x w))

pub number-bits_of : (w x : ℕ) → x < 2 ^ w → number (bits_of w x) ≡ x
number-bits_of zero x lt = omega arith
number-bits_of (suc w) x lt =
    let p : 2 ^ suc w ≡ 2 ^ w * 2 = pow-suc 2 w in
    let half : x / 2 < 2 ^ w = omega (arith, p) in
    rw (number-bits_of w (x / 2) half) (omega arith)

-- the bits of numbers side by side
abbrev pub all_bits : ℕ → List ℕ → List ℕ
all_bits w [] = []
all_bits w (x ∷ xs) = bits_of w x ++ all_bits w xs

pub all_bits_push : (w : ℕ) (xs : List ℕ) (x : ℕ) → all_bits w (xs ++ x ∷ []) ≡ all_bits w xs ++ bits_of w x
all_bits_push w [] x = append-nil (bits_of w x)
all_bits_push w (y ∷ xs) x = ap (λ (t : List ℕ). bits_of w y ++ t) (all_bits_push w xs x) ∙ sym (append_assoc (bits_of w y) (all_bits w xs) (bits_of w x))

pub length-all_bits : (w : ℕ) (xs : List ℕ) → length (all_bits w xs) ≡ length xs * w
length-all_bits w [] = omega arith
length-all_bits w (x ∷ xs) = omega (arith, length-append (bits_of w x) (all_bits w xs), length-bits_of w x, length-all_bits w xs)

-- number i stands where it belongs
pub stands : (w : ℕ) (xs rest : List ℕ) (i : ℕ) → i < length xs → take w (drop (i * w) (all_bits w xs ++ rest)) ≡ bits_of w (get_or xs i 0)
stands w [] rest i lt = absurd (omega arith)
stands w (x ∷ xs) rest zero lt =
    let z : 0 * w ≡ 0 = omega arith in
    rw (z, append_assoc (bits_of w x) (all_bits w xs) rest) (take_at (bits_of w x) (all_bits w xs ++ rest) w (length-bits_of w x))
stands w (x ∷ xs) rest (suc i) lt =
    let e : suc i * w ≡ w + i * w = omega arith in
    let d : drop (w + i * w) (bits_of w x ++ (all_bits w xs ++ rest)) ≡ drop (i * w) (all_bits w xs ++ rest) =
    sym (drop-drop (i * w) w (bits_of w x ++ (all_bits w xs ++ rest))) ∙ ap (λ (t : List ℕ). drop (i * w) t) (drop_at (bits_of w x) (all_bits w xs ++ rest) w (length-bits_of w x)) in
    rw (e, append_assoc (bits_of w x) (all_bits w xs) rest, d) (stands w xs rest i (omega arith))

-- what was put: whole bytes, and the bits of one that is not full
pub record Putting (old new : List ℕ) (byte filled : ℕ) (all : List ℕ) : Type 0 where
  pub text : List ℕ
  pub rest : List ℕ
  pub joined : new ≡ old ++ text
  pub so_far : all ≡ bits text ++ rest
  pub held : byte ≡ number rest
  pub size : length rest ≡ filled
  pub few : filled < 8
  pub low : (i : ℕ) → get_or rest i 0 < 2

-- one bit more
low_push : (xs : List ℕ) (b : ℕ) → b < 2 → ((i : ℕ) → get_or xs i 0 < 2) → (i : ℕ) → get_or (xs ++ b ∷ []) i 0 < 2
low_push [] b lt h zero = lt
low_push [] b lt h (suc i) = omega arith
low_push (x ∷ xs) b lt h zero = h 0
low_push (x ∷ xs) b lt h (suc i) = low_push xs b lt (λ j. h (suc j)) i

pub record MoreHeld (byte filled b : ℕ) (rest : List ℕ) : Type 0 where
  pub is : byte + (b * 2 ^ filled) % 2 ^ 8 ≡ number (rest ++ b ∷ [])
  pub fits : byte + (b * 2 ^ filled) % 2 ^ 8 < 2 ^ 8
  pub low : (i : ℕ) → get_or (rest ++ b ∷ []) i 0 < 2
  pub size : length (rest ++ b ∷ []) ≡ filled + 1

pub more_held : (old new : List ℕ) (byte filled b : ℕ) (all : List ℕ) → b < 2 → (p : Putting old new byte filled all) → MoreHeld byte filled b p.rest
more_held old new byte filled b all lt p =
    let s = shl_whole b 1 filled 8 lt (omega (arith, p.few)) in
    let m = number_push p.rest b in
    let size : length (p.rest ++ b ∷ []) ≡ filled + 1 = omega (arith, length-append p.rest (b ∷ []), p.size) in
    let low = low_push p.rest b lt p.low in
    let bound : number (p.rest ++ b ∷ []) < 2 ^ (filled + 1) = rw size at (number_bound (p.rest ++ b ∷ []) low) in
    let t : 2 ^ (filled + 1) ≤ 2 ^ 8 = pow_mono {i = filled + 1} {j = 8} (omega (arith, p.few)) in
    let e : byte + (b * 2 ^ filled) % 2 ^ 8 ≡ number (p.rest ++ b ∷ []) = rw (s, m, p.size) (ap (λ (v : ℕ). v + b * 2 ^ filled) p.held) in
    record { is = e; fits = rw e (omega (arith, bound, t)); low = low; size = size }

pub put_bit : (old new : List ℕ) (byte filled b : ℕ) (all : List ℕ) → b < 2 → filled + 1 ≢ 8 → Putting old new byte filled all → Putting old new (byte + (b * 2 ^ filled) % 2 ^ 8) (filled + 1) (all ++ b ∷ [])
put_bit old new byte filled b all lt room p =
    let m = more_held old new byte filled b all lt p in
    record { text = p.text; rest = p.rest ++ b ∷ []; joined = p.joined; so_far = ap (λ (t : List ℕ). t ++ b ∷ []) p.so_far ∙ append_assoc (bits p.text) p.rest (b ∷ []); held = m.is; size = m.size; few = omega (arith, p.few, room); low = m.low }

pub put_last : (old new : List ℕ) (byte filled b : ℕ) (all : List ℕ) → b < 2 → filled + 1 ≡ 8 → Putting old new byte filled all → Putting old (new ++ (byte + (b * 2 ^ filled) % 2 ^ 8) ∷ []) 0 0 (all ++ b ∷ [])
put_last old new byte filled b all lt full p =
    let m = more_held old new byte filled b all lt p in
    let last = byte + (b * 2 ^ filled) % 2 ^ 8 in
    let w : bits (last ∷ []) ≡ p.rest ++ b ∷ [] = rw m.is (whole_byte (p.rest ++ b ∷ []) (omega (arith, m.size)) m.low) in
    record {
      text = p.text ++ last ∷ [];
      rest = [];
      joined = ap (λ (t : List ℕ). t ++ last ∷ []) p.joined ∙ append_assoc old p.text (last ∷ []);
      so_far = ap (λ (t : List ℕ). t ++ b ∷ []) p.so_far ∙ append_assoc (bits p.text) p.rest (b ∷ []) ∙ ap (λ (t : List ℕ). bits p.text ++ t) (sym w) ∙ sym (bits-append p.text (last ∷ [])) ∙ sym (append-nil (bits (p.text ++ last ∷ [])));
      held = refl;
      size = refl;
      few = omega arith;
      low = λ i. omega arith;
    }

-- ---- the end

zeros : ℕ → List ℕ
zeros zero = []
zeros (suc n) = 0 ∷ zeros n

length-zeros : (n : ℕ) → length (zeros n) ≡ n
unfolding zeros
length-zeros zero = refl
length-zeros (suc n) = ap suc (length-zeros n)

number-zeros : (xs : List ℕ) (n : ℕ) → number (xs ++ zeros n) ≡ number xs
unfolding zeros
number-zeros [] zero = refl
number-zeros [] (suc n) = omega (arith, number-zeros [] n)
number-zeros (x ∷ xs) n = rw (number-zeros xs n) refl

low-zeros : (xs : List ℕ) (n : ℕ) → ((i : ℕ) → get_or xs i 0 < 2) → (i : ℕ) → get_or (xs ++ zeros n) i 0 < 2
unfolding zeros
low-zeros [] zero h i = omega arith
low-zeros [] (suc n) h zero = omega arith
low-zeros [] (suc n) h (suc i) = low-zeros [] n h i
low-zeros (x ∷ xs) n h zero = h 0
low-zeros (x ∷ xs) n h (suc i) = low-zeros xs n (λ j. h (suc j)) i

get_or-zeros : (n i : ℕ) (rest : List ℕ) → i < n → get_or (zeros n ++ rest) i 0 ≡ 0
unfolding zeros
get_or-zeros zero i rest lt = absurd (omega arith)
get_or-zeros (suc n) zero rest lt = refl
get_or-zeros (suc n) (suc i) rest lt = get_or-zeros n i rest (omega arith)

packed_of : (text rest xs : List ℕ) (w : ℕ) → bits text ≡ all_bits w xs ++ rest → ((i : ℕ) → i < length xs → get_or xs i 0 < 2 ^ w) → IsPacked text w xs
packed_of text rest xs w e fit = record {
  within = omega (arith, length-bits text, ap length e, length-append (all_bits w xs) rest, length-all_bits w xs);
  each = λ i lt.
      let span : (i + 1) * w - i * w ≡ w = omega arith in
      let n : number (take w (drop (i * w) (bits text))) ≡ get_or xs i 0 = rw (e, stands w xs rest i lt) (number-bits_of w (get_or xs i 0) (fit i lt)) in
      rw span (sym n);
}

-- a text whose bits are those of the numbers and fewer than eight zeros holds them, whatever follows
padded_of : (text more xs : List ℕ) (w k : ℕ) → k < 8 → ((i : ℕ) → i < length xs → get_or xs i 0 < 2 ^ w) → bits text ≡ all_bits w xs ++ zeros k → IsPadded (text ++ more) w xs (length text)
padded_of text more xs w k few fit e =
    let whole : bits (text ++ more) ≡ all_bits w xs ++ (zeros k ++ bits more) = bits-append text more ∙ ap (λ (t : List ℕ). t ++ bits more) e ∙ append_assoc (all_bits w xs) (zeros k) (bits more) in
    let size : 8 * length text ≡ length xs * w + k = omega (arith, length-bits text, ap length e, length-append (all_bits w xs) (zeros k), length-all_bits w xs, length-zeros k) in
    record {
      packed = packed_of (text ++ more) (zeros k ++ bits more) xs w whole fit;
      least = omega (arith, size);
      padding = λ i past within. rw whole (get_or-append_right (all_bits w xs) (zeros k ++ bits more) (length xs * w) i 0 (length-all_bits w xs) past ∙ get_or-zeros k (i - length xs * w) (bits more) (omega (arith, size)));
    }

-- all numbers are put, and no bit is left over
pub finish : (old new xs : List ℕ) (w byte : ℕ) → ((i : ℕ) → i < length xs → get_or xs i 0 < 2 ^ w) → Putting old new byte 0 (all_bits w xs) → Appends (λ bytes. IsPadded bytes w xs) (packed_size (length xs) w) old new
unfolding zeros
finish old new xs w byte fit p =
    let none : p.rest ≡ [] = nil_from_length p.rest p.size in
    let e : bits p.text ≡ all_bits w xs ++ [] = sym (p.so_far ∙ ap (λ (t : List ℕ). bits p.text ++ t) none ∙ append-nil (bits p.text)) ∙ sym (append-nil (all_bits w xs)) in
    let all = λ (more : List ℕ). padded_of p.text more xs w 0 (omega arith) fit e in
    let least = (all []).least in
    record { text = p.text; joined = p.joined; stands = all; short = omega (arith, least) }

-- all numbers are put, and the last byte is filled up
pub finish_last : (old new xs : List ℕ) (w byte filled : ℕ) → 0 < filled → ((i : ℕ) → i < length xs → get_or xs i 0 < 2 ^ w) → Putting old new byte filled (all_bits w xs) → Appends (λ bytes. IsPadded bytes w xs) (packed_size (length xs) w) old (new ++ byte ∷ [])
finish_last old new xs w byte filled some fit p =
    let pad = zeros (8 - filled) in
    let size : length (p.rest ++ pad) ≡ 8 = omega (arith, length-append p.rest pad, p.size, length-zeros (8 - filled), p.few) in
    let h : number (p.rest ++ pad) ≡ byte = number-zeros p.rest (8 - filled) ∙ sym p.held in
    let b : bits (byte ∷ []) ≡ p.rest ++ pad = rw (← h) (whole_byte (p.rest ++ pad) size (low-zeros p.rest (8 - filled) p.low)) in
    let text = p.text ++ byte ∷ [] in
    let e : bits text ≡ all_bits w xs ++ pad = bits-append p.text (byte ∷ []) ∙ ap (λ (t : List ℕ). bits p.text ++ t) b ∙ sym (append_assoc (bits p.text) p.rest pad) ∙ ap (λ (t : List ℕ). t ++ pad) (sym p.so_far) in
    let all = λ (more : List ℕ). padded_of text more xs w (8 - filled) (omega arith) fit e in
    let least = (all []).least in
    record { text = text; joined = ap (λ (t : List ℕ). t ++ byte ∷ []) p.joined ∙ append_assoc old p.text (byte ∷ []); stands = all; short = omega (arith, least) }

pub bit_small : (n : ℕ) → bit_and n 1 < 2
bit_small n = rw (and_mask n 1) (omega arith)

-- the bits of one more
pub next_bit : (all : List ℕ) (x k : ℕ) → all ++ bits_of (k + 1) x ≡ (all ++ bits_of k x) ++ bit_and (x / 2 ^ k) 1 ∷ []
next_bit all x k = rw (and_mask (x / 2 ^ k) 1, add-one, bits_of_suc k x) (sym (append_assoc all (bits_of k x) ((x / 2 ^ k % 2) ∷ [])))

pub put_next : (old new : List ℕ) (byte filled x k : ℕ) (all : List ℕ) → filled + 1 ≢ 8 → Putting old new byte filled (all ++ bits_of k x)
    → Putting old new (byte + (bit_and (x / 2 ^ k) 1 * 2 ^ filled) % 2 ^ 8) (filled + 1) (all ++ bits_of (k + 1) x)
put_next old new byte filled x k all room p = rw (next_bit all x k) (put_bit old new byte filled (bit_and (x / 2 ^ k) 1) (all ++ bits_of k x) (bit_small (x / 2 ^ k)) room p)

pub put_eighth : (old new : List ℕ) (byte filled x k : ℕ) (all : List ℕ) → filled + 1 ≡ 8 → Putting old new byte filled (all ++ bits_of k x)
    → Putting old (new ++ (byte + (bit_and (x / 2 ^ k) 1 * 2 ^ filled) % 2 ^ 8) ∷ []) 0 0 (all ++ bits_of (k + 1) x)
put_eighth old new byte filled x k all full p = rw (next_bit all x k) (put_last old new byte filled (bit_and (x / 2 ^ k) 1) (all ++ bits_of k x) (bit_small (x / 2 ^ k)) full p)
