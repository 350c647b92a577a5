-- Digits in lower case are the text of bytes.
use Rattle.std.proofs.Common.{◌≡◌, ℕ, zero, suc, ◌+◌, ◌-◌, ◌*◌, ◌/◌, ◌%◌, ◌<◌, ◌≤◌, ◌==◌, Bool, true, false, ◌&&◌, inl, inr, List, [], ◌∷◌, ◌++◌, length, take, drop, slice_index, slice_set, refl, sym, ap, ap₂, ◌∙◌, arith, append_assoc, append-nil}
use Rattle.std.proofs.lemmas.List.{drop_more, take_all, take_more_set, length-drop}
use Rattle.std.specs.Prelude.{if◌then◌else◌, nat_lt, nat_le}
use Rattle.std.specs.List.{AllPass}
use Rattle.std.proofs.lemmas.Bool.{and_parts, cases_lt, eqb-true, and_from as both}
use Rattle.std.proofs.lemmas.Bool.Decides.{nat_tests}
use Rattle.std.proofs.lemmas.List.Elements.{All-head, All-tail}
use Rattle.hex.specs.Hex.{encode_with, encode_lower, lower_digits}
use Rattle.serde_json.specs.Data as json
use Rattle.schema.specs.declared.value.Kind.{Kind}
use Rattle.schema.specs.Annotations.{LeafType, is_text}
use Rattle.schema.specs.Fits.{are_bytes, fits_kind, fits_leaf}
use Rattle.schema.specs.Values.{bytes}
use Rattle.rowtext.specs.Json.{leaf_json}
use Rattle.rowtext.specs.inner.LowerDigits.{is_lower_digit, digit_value, pair_value, bytes_of_pairs, AreDigitsOf}

-- the digit of each value
abbrev code : ℕ → ℕ
code v = if nat_lt v 10 then 48 + v else 87 + v

abbrev all_coded : ℕ → Bool
all_coded zero = true
all_coded (suc n) = (slice_index lower_digits n == code n) && all_coded n

coded_at : (n k : ℕ) → all_coded n ≡ true → k < n → slice_index lower_digits k ≡ code k
coded_at zero k h lt = absurd (omega (arith, lt))
coded_at (suc n) k h lt =
    let parts = and_parts (slice_index lower_digits n == code n) (all_coded n) h in
    elim (cases_lt k n) [
      | inl below ↦ coded_at n k parts.1 below
      | inr top ↦
          let e : k ≡ n = omega arith in
          rw e (eqb-true (slice_index lower_digits n) (code n) parts.0)
    ]

coded : (v : ℕ) → v < 16 → slice_index lower_digits v ≡ code v
coded v lt = coded_at 16 v refl lt

abbrev digit : ℕ → ℕ
digit c = if nat_le c 57 then c - 48 else c - 87

digit_small : (c : ℕ) → is_lower_digit c ≡ true → digit c < 16
digit_small c h = grind (arith, nat_tests)

value_of_digit : (c : ℕ) → is_lower_digit c ≡ true → digit_value c ≡ digit c
value_of_digit c h = grind (arith, nat_tests)

digit_code : (c : ℕ) → is_lower_digit c ≡ true → code (digit c) ≡ c
digit_code c h = grind (arith, nat_tests)

abbrev is_lower : ℕ → Type 0
is_lower c = is_lower_digit c ≡ true

-- digits are those of their bytes
pairs_shown : (s : List ℕ) → length s % 2 ≡ 0 → AllPass is_lower_digit s → encode_lower (bytes_of_pairs s) ≡ s
unfolding encode_with
pairs_shown [] even h = refl
pairs_shown (x ∷ []) even h = absurd (omega (arith, even))
pairs_shown (x ∷ y ∷ rest) even h =
    let hx = All-head is_lower x (y ∷ rest) h in
    let tail = All-tail is_lower x (y ∷ rest) h in
    let hy = All-head is_lower y rest tail in
    let a = digit x in
    let b = digit y in
    let la : a < 16 = digit_small x hx in
    let lb : b < 16 = digit_small y hy in
    let byte : pair_value x y ≡ a * 16 + b = let ea = value_of_digit x hx in let eb = value_of_digit y hy in omega (arith, ea, eb, la, lb) in
    let high : pair_value x y / 16 ≡ a = omega (arith, byte, la, lb) in
    let low : pair_value x y % 16 ≡ b = omega (arith, byte, la, lb) in
    let first : slice_index lower_digits (pair_value x y / 16) ≡ x = ap (slice_index lower_digits) high ∙ coded a la ∙ digit_code x hx in
    let second : slice_index lower_digits (pair_value x y % 16) ≡ y = ap (slice_index lower_digits) low ∙ coded b lb ∙ digit_code y hy in
    ap₂ (λ (u : ℕ) (t : List ℕ). u ∷ t) first (ap₂ (λ (u : ℕ) (t : List ℕ). u ∷ t) second (pairs_shown rest (omega (arith, even)) (All-tail is_lower y rest tail)))

pairs_pass : (s : List ℕ) → are_bytes (bytes_of_pairs s) ≡ true
pairs_pass [] = refl
pairs_pass (x ∷ []) = refl
pairs_pass (x ∷ y ∷ rest) = both (nat_lt (pair_value x y) 256) (are_bytes (bytes_of_pairs rest)) (grind (arith, nat_tests)) (pairs_pass rest)

half : (s : List ℕ) → length (bytes_of_pairs s) ≡ length s / 2
half [] = refl
half (x ∷ []) = refl
half (x ∷ y ∷ rest) = let e = half rest in omega (arith, e)

-- digits are those of bytes, half as many
pub digits_read : (k : Kind) (s : List ℕ) → length s % 2 ≡ 0 → AllPass is_lower_digit s → ((b : List ℕ) → length b ≡ length s / 2 → are_bytes b ≡ true → fits_kind k (bytes b) ≡ true) → AreDigitsOf k s
digits_read k s even h fit = (pairs_shown s even h, fit (bytes_of_pairs s) (half s) (pairs_pass s))

-- they are shown by those digits
pub digits_shown : (t : LeafType) (s b : List ℕ) → is_text t.kind t.annotation ≡ false → fits_kind t.kind (bytes b) ≡ true → encode_lower b ≡ s → (fits_leaf t (bytes b) ≡ true) × (leaf_json t (bytes b) ≡ json.string s)
digits_shown t s b other fit said = (rw (other, fit) refl, rw other (ap json.string said))

-- one byte more is written
pub pair_put : (s out w : List ℕ) (i v : ℕ) → 2 * i + 1 < length s → i < length out → v ≡ pair_value (slice_index s (2 * i)) (slice_index s (2 * i + 1))
    → take i out ++ bytes_of_pairs (drop (2 * i) s) ≡ w → take (i + 1) (slice_set out i v) ++ bytes_of_pairs (drop (2 * (i + 1)) s) ≡ w
pair_put s out w i v more room is so =
    let first : drop (2 * i) s ≡ slice_index s (2 * i) ∷ drop (2 * i + 1) s = drop_more s (2 * i) 0 (omega (arith, more)) in
    let second : drop (2 * i + 1) s ≡ slice_index s (2 * i + 1) ∷ drop (2 * i + 1 + 1) s = drop_more s (2 * i + 1) 0 more in
    let next : drop (2 * i + 1 + 1) s ≡ drop (2 * (i + 1)) s = ap (λ n. drop n s) (omega arith) in
    let rest : bytes_of_pairs (drop (2 * i) s) ≡ v ∷ bytes_of_pairs (drop (2 * (i + 1)) s) =
    ap bytes_of_pairs (first ∙ ap (λ t. slice_index s (2 * i) ∷ t) (second ∙ ap (λ t. slice_index s (2 * i + 1) ∷ t) next)) ∙ ap (λ x. x ∷ bytes_of_pairs (drop (2 * (i + 1)) s)) (sym is) in
    ap (λ t. t ++ bytes_of_pairs (drop (2 * (i + 1)) s)) (take_more_set out i v room) ∙ append_assoc (take i out) (v ∷ []) (bytes_of_pairs (drop (2 * (i + 1)) s)) ∙ ap (λ t. take i out ++ t) (sym rest) ∙ so

no_pair : (s : List ℕ) → length s ≤ 1 → bytes_of_pairs s ≡ []
no_pair [] h = refl
no_pair (x ∷ []) h = refl
no_pair (x ∷ y ∷ rest) h = absurd (omega (arith, h))

-- all are written
pub pairs_put : (s out : List ℕ) (i : ℕ) → length out ≡ length s / 2 → length out ≤ i → take i out ++ bytes_of_pairs (drop (2 * i) s) ≡ bytes_of_pairs s → out ≡ bytes_of_pairs s
pairs_put s out i long end so =
    let none : bytes_of_pairs (drop (2 * i) s) ≡ [] = no_pair (drop (2 * i) s) (let e = length-drop (2 * i) s in omega (arith, e, long, end)) in
    sym (append-nil out) ∙ ap₂ (λ a b. a ++ b) (sym (take_all i out end)) (sym none) ∙ so
