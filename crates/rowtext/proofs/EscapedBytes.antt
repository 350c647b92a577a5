-- What is appended of strings, and of the digits of bytes.
use Rattle.std.proofs.Common.{◌≡◌, ℕ, zero, suc, ◌/◌, ◌%◌, ◌<◌, ◌≤◌, nat_lt, true, List, [], ◌∷◌, ◌++◌, length, take, drop, refl, sym, ap, ap₂, ◌∙◌, arith, append_assoc, append-nil, ◌-◌, get_or-take, length-take-le}
use Rattle.std.specs.Prelude.{slice_index}
use Rattle.std.proofs.lemmas.List.{take-append-drop, take_rest, nil_from_length}
use Rattle.std.proofs.lemmas.List.Concat.{flat_map-append}
use Rattle.std.specs.Char.{digit_char}
use Rattle.std.proofs.lemmas.Bool.Decides.{Decides-ltb}
use Rattle.hex.specs.Hex.{lower_digits, encode_with, encode_lower}
use Rattle.json.specs.Print.{escape_letter, escape_byte, escape, quoted}
use Rattle.json.specs.Run.{is_plain}
use Rattle.json.specs.Written.{PlainBetween}
use Rattle.json.proofs.Printed.Plain.{escape_on_plain}

-- ---- strings

-- quotes are put around a text that has nothing to be escaped
pub quotes_put : (old first mid last s : List ℕ) → escape s ≡ s → first ≡ old ++ 34 ∷ [] → mid ≡ first ++ s → last ≡ mid ++ 34 ∷ [] → last ≡ old ++ quoted s
quotes_put old first mid last s plain begun put ended =
    ended ∙ ap (λ (x : List ℕ). x ++ 34 ∷ []) (put ∙ ap (λ (x : List ℕ). x ++ s) begun) ∙ append_assoc (old ++ 34 ∷ []) s (34 ∷ []) ∙ append_assoc old (34 ∷ []) (s ++ 34 ∷ [])
    ∙ ap (λ (x : List ℕ). old ++ 34 ∷ (x ++ 34 ∷ [])) (sym plain)

-- the bytes before one that has to be escaped are put, of a text of which the escapes are to follow what was there
module _ (old d mid all : List ℕ) (n : ℕ) (within : n ≤ length d) (plain : PlainBetween d 0 n) (put : mid ≡ old ++ take n d) (so : old ++ escape d ≡ all) where
  run_put : mid ++ escape (take (length d - n) (drop n d)) ≡ all
  run_put =
      let x = take n d in
      let long : length x ≡ n = length-take-le n d within in
      let same : escape x ≡ x = escape_on_plain true x (λ k p q. ap is_plain (get_or-take n d k 0 (omega (arith, q, long))) ∙ plain k p (omega (arith, q, long))) in
      let split : escape d ≡ x ++ escape (drop n d) = ap escape (sym (take-append-drop n d)) ∙ flat_map-append escape_byte x (drop n d) ∙ ap (λ (r : List ℕ). r ++ escape (drop n d)) same in
      ap (λ (r : List ℕ). mid ++ escape r) (take_rest d n) ∙ ap (λ (r : List ℕ). r ++ escape (drop n d)) put ∙ append_assoc old x (escape (drop n d)) ∙ ap (λ (r : List ℕ). old ++ r) (sym split) ∙ so

  pub escapes_end : length (take (length d - n) (drop n d)) ≡ 0 → mid ≡ all
  escapes_end none = sym (append-nil mid) ∙ ap (λ (r : List ℕ). mid ++ escape r) (sym (nil_from_length (take (length d - n) (drop n d)) none)) ∙ run_put

  -- and that byte
  pub escapes_more : (new later : List ℕ) (b : ℕ) → take (length d - n) (drop n d) ≡ b ∷ later → new ≡ mid ++ escape_byte b → new ++ escape later ≡ all
  escapes_more new later b first one =
      ap (λ (r : List ℕ). r ++ escape later) one ∙ append_assoc mid (escape_byte b) (escape later) ∙ ap (λ (r : List ℕ). mid ++ escape r) (sym first) ∙ run_put

-- ---- digits

pub below_16 : (P : ℕ → Type 0) → P 0 → P 1 → P 2 → P 3 → P 4 → P 5 → P 6 → P 7 → P 8 → P 9 → P 10 → P 11 → P 12 → P 13 → P 14 → P 15 → (n : ℕ) → n < 16 → P n
below_16 P p0 p1 p2 p3 p4 p5 p6 p7 p8 p9 p10 p11 p12 p13 p14 p15 zero h = p0
below_16 P p0 p1 p2 p3 p4 p5 p6 p7 p8 p9 p10 p11 p12 p13 p14 p15 (suc zero) h = p1
below_16 P p0 p1 p2 p3 p4 p5 p6 p7 p8 p9 p10 p11 p12 p13 p14 p15 (suc (suc zero)) h = p2
below_16 P p0 p1 p2 p3 p4 p5 p6 p7 p8 p9 p10 p11 p12 p13 p14 p15 (suc (suc (suc zero))) h = p3
below_16 P p0 p1 p2 p3 p4 p5 p6 p7 p8 p9 p10 p11 p12 p13 p14 p15 (suc (suc (suc (suc zero)))) h = p4
below_16 P p0 p1 p2 p3 p4 p5 p6 p7 p8 p9 p10 p11 p12 p13 p14 p15 (suc (suc (suc (suc (suc zero))))) h = p5
below_16 P p0 p1 p2 p3 p4 p5 p6 p7 p8 p9 p10 p11 p12 p13 p14 p15 (suc (suc (suc (suc (suc (suc zero)))))) h = p6
below_16 P p0 p1 p2 p3 p4 p5 p6 p7 p8 p9 p10 p11 p12 p13 p14 p15 (suc (suc (suc (suc (suc (suc (suc zero))))))) h = p7
below_16 P p0 p1 p2 p3 p4 p5 p6 p7 p8 p9 p10 p11 p12 p13 p14 p15 (suc (suc (suc (suc (suc (suc (suc (suc zero)))))))) h = p8
below_16 P p0 p1 p2 p3 p4 p5 p6 p7 p8 p9 p10 p11 p12 p13 p14 p15 (suc (suc (suc (suc (suc (suc (suc (suc (suc zero))))))))) h = p9
below_16 P p0 p1 p2 p3 p4 p5 p6 p7 p8 p9 p10 p11 p12 p13 p14 p15 (suc (suc (suc (suc (suc (suc (suc (suc (suc (suc zero)))))))))) h = p10
below_16 P p0 p1 p2 p3 p4 p5 p6 p7 p8 p9 p10 p11 p12 p13 p14 p15 (suc (suc (suc (suc (suc (suc (suc (suc (suc (suc (suc zero))))))))))) h = p11
below_16 P p0 p1 p2 p3 p4 p5 p6 p7 p8 p9 p10 p11 p12 p13 p14 p15 (suc (suc (suc (suc (suc (suc (suc (suc (suc (suc (suc (suc zero)))))))))))) h = p12
below_16 P p0 p1 p2 p3 p4 p5 p6 p7 p8 p9 p10 p11 p12 p13 p14 p15 (suc (suc (suc (suc (suc (suc (suc (suc (suc (suc (suc (suc (suc zero))))))))))))) h = p13
below_16 P p0 p1 p2 p3 p4 p5 p6 p7 p8 p9 p10 p11 p12 p13 p14 p15 (suc (suc (suc (suc (suc (suc (suc (suc (suc (suc (suc (suc (suc (suc zero)))))))))))))) h = p14
below_16 P p0 p1 p2 p3 p4 p5 p6 p7 p8 p9 p10 p11 p12 p13 p14 p15 (suc (suc (suc (suc (suc (suc (suc (suc (suc (suc (suc (suc (suc (suc (suc zero))))))))))))))) h = p15
below_16 P p0 p1 p2 p3 p4 p5 p6 p7 p8 p9 p10 p11 p12 p13 p14 p15 (suc (suc (suc (suc (suc (suc (suc (suc (suc (suc (suc (suc (suc (suc (suc (suc n)))))))))))))))) h = absurd (omega (arith, h))

pub digit_is : (n : ℕ) → n < 16 → digit_char n ≡ slice_index lower_digits n
digit_is = below_16 (λ n. digit_char n ≡ slice_index lower_digits n) refl refl refl refl refl refl refl refl refl refl refl refl refl refl refl refl

digit_plain : (n : ℕ) → n < 16 → escape_byte (slice_index lower_digits n) ≡ slice_index lower_digits n ∷ []
unfolding escape_byte
digit_plain = below_16 (λ n. escape_byte (slice_index lower_digits n) ≡ slice_index lower_digits n ∷ []) refl refl refl refl refl refl refl refl refl refl refl refl refl refl refl refl

pub digits_plain : (s : List ℕ) → ((i : ℕ) → slice_index s i < 256) → escape (encode_lower s) ≡ encode_lower s
unfolding encode_with
digits_plain [] h = refl
digits_plain (b ∷ s) h =
    let small = h 0 in
    let high = digit_plain (b / 16) (omega (arith, small)) in
    let low = digit_plain (b % 16) (omega arith) in
    ap₂ (λ (x y : List ℕ). x ++ (y ++ escape (encode_lower s))) high low ∙ ap (λ (r : List ℕ). slice_index lower_digits (b / 16) ∷ slice_index lower_digits (b % 16) ∷ r) (digits_plain s (λ i. h (suc i)))

-- a control character without a short escape
pub low_byte : (x high low : ℕ) → escape_letter x ≡ 0 → x < 32 → high ≡ slice_index lower_digits (x / 16) → low ≡ slice_index lower_digits (x % 16) → 92 ∷ 117 ∷ 48 ∷ 48 ∷ high ∷ low ∷ [] ≡ escape_byte x
unfolding escape_byte
low_byte x high low none small h l =
    let test : nat_lt x 32 ≡ true = (Decides-ltb x 32).1 small in
    let a = h ∙ sym (digit_is (x / 16) (omega (arith, small))) in
    let b = l ∙ sym (digit_is (x % 16) (omega arith)) in
    ap₂ (λ (m n : ℕ). 92 ∷ 117 ∷ 48 ∷ 48 ∷ m ∷ n ∷ []) a b ∙ sym (rw none (rw test refl))
