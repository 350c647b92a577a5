-- The bytes for which the content of a string stands, and what is printed for them.
use Rattle.std.proofs.Common.{◌≡◌, ℕ, zero, suc, ◌+◌, ◌-◌, ◌*◌, ◌/◌, ◌%◌, ◌<◌, ◌≤◌, Bool, true, ◌&&◌, nat_lt, inl, inr, List, [], ◌∷◌, ◌++◌, length, take, drop, get_or, refl, sym, ap, ap₂, subst, ◌∙◌, arith, append_assoc, append-nil, take-add, get_or-take, get_or-drop, length-take-le, length-drop}
use Rattle.std.specs.Char.{digit_char}
use Rattle.std.specs.Str.{IsUtf8, IsCharBoundary}
use Rattle.std.proofs.lemmas.Bool.{cases_eq, cases_lt, ne_eqb, eq-eqb, eqb-false, lt-ltb, ltb-true, and_parts, and_from, or_parts, not-true}
use Rattle.std.proofs.lemmas.List.{take_rest}
use Rattle.std.proofs.lemmas.List.Concat.{flat_map-append}
use Rattle.std.proofs.lemmas.Str.{IsUtf8-append, IsUtf8-nil, IsUtf8-from_ascii, IsUtf8-between, IsCharBoundary-start, IsCharBoundary-before_ascii, IsCharBoundary-after_ascii, is_utf8-from_IsUtf8}
use Rattle.json.specs.Print.{escape_letter, escape_byte, escape}
use Rattle.json.specs.Run.{is_plain}
use Rattle.json.specs.Written.{PlainBetween}
use Rattle.json.proofs.Printed.Plain.{escape_on_plain}
use Rattle.json.proofs.Printed.Strings.{escape_byte_plain}
use Rattle.json.proofs.Printed.Utf8.{are_ascii}
use Rattle.schema.specs.Fits.{are_bytes}
use Rattle.rowtext.specs.inner.Escapes.{byte_of_letter, value_of_digit, unescape, IsPrintedText}
use Rattle.rowtext.proofs.EscapedBytes.{below_16}

-- ---- what stands at the front

pub plain_front : (d : List ℕ) → 0 < length d → (get_or d 0 0 ≡ 92 → ⊥) → unescape d ≡ get_or d 0 0 ∷ unescape (drop 1 d)
plain_front [] some other = absurd (omega (arith, some))
plain_front (x ∷ s) some other = rw (ne_eqb x 92 other)

pub nothing_behind : (d : List ℕ) → length d < 2 → get_or d 0 0 ≡ 92 → unescape d ≡ []
nothing_behind [] n is = refl
nothing_behind (x ∷ []) n is = rw (eq-eqb x 92 is)
nothing_behind (x ∷ c ∷ s) n is = absurd (omega (arith, n))

pub letter_front : (d : List ℕ) → 2 ≤ length d → get_or d 0 0 ≡ 92 → (get_or d 1 0 ≡ 117 → ⊥) → unescape d ≡ byte_of_letter (get_or d 1 0) ∷ unescape (drop 2 d)
letter_front [] n is other = absurd (omega (arith, n))
letter_front (x ∷ []) n is other = absurd (omega (arith, n))
letter_front (x ∷ c ∷ s) n is other = rw (eq-eqb x 92 is, ne_eqb c 117 other)

pub digits_cut : (d : List ℕ) → length d < 6 → get_or d 0 0 ≡ 92 → get_or d 1 0 ≡ 117 → unescape d ≡ []
digits_cut [] n is u = refl
digits_cut (x ∷ []) n is u = rw (eq-eqb x 92 is)
digits_cut (x ∷ y ∷ []) n is u = rw (eq-eqb x 92 is, eq-eqb y 117 u)
digits_cut (x ∷ y ∷ a ∷ []) n is u = rw (eq-eqb x 92 is, eq-eqb y 117 u)
digits_cut (x ∷ y ∷ a ∷ b ∷ []) n is u = rw (eq-eqb x 92 is, eq-eqb y 117 u)
digits_cut (x ∷ y ∷ a ∷ b ∷ c ∷ []) n is u = rw (eq-eqb x 92 is, eq-eqb y 117 u)
digits_cut (x ∷ y ∷ a ∷ b ∷ c ∷ e ∷ s) n is u = absurd (omega (arith, n))

pub digits_front : (d : List ℕ) → 6 ≤ length d → get_or d 0 0 ≡ 92 → get_or d 1 0 ≡ 117 → unescape d ≡ (value_of_digit (get_or d 4 0) * 16 + value_of_digit (get_or d 5 0)) ∷ unescape (drop 6 d)
digits_front [] n is u = absurd (omega (arith, n))
digits_front (x ∷ []) n is u = absurd (omega (arith, n))
digits_front (x ∷ y ∷ []) n is u = absurd (omega (arith, n))
digits_front (x ∷ y ∷ a ∷ []) n is u = absurd (omega (arith, n))
digits_front (x ∷ y ∷ a ∷ b ∷ []) n is u = absurd (omega (arith, n))
digits_front (x ∷ y ∷ a ∷ b ∷ c ∷ []) n is u = absurd (omega (arith, n))
digits_front (x ∷ y ∷ a ∷ b ∷ c ∷ e ∷ s) n is u = rw (eq-eqb x 92 is, eq-eqb y 117 u)

no_backslash : (x : ℕ) → is_plain x ≡ true → x ≡ 92 → ⊥
no_backslash x h = let none = or_parts _ _ (not-true _ h) in eqb-false x 92 (or_parts _ _ none.0).1

-- plain bytes stand for themselves
pub run_kept : (d : List ℕ) (n : ℕ) → n ≤ length d → PlainBetween d 0 n → unescape d ≡ take n d ++ unescape (drop n d)
run_kept d zero le plain = refl
run_kept [] (suc n) le plain = absurd (omega (arith, le))
run_kept (x ∷ s) (suc n) le plain = rw (ne_eqb x 92 (no_backslash x (plain 0 (omega arith) (omega arith)))) (ap (λ r. x ∷ r) (run_kept s n (omega (arith, le)) (λ k p q. plain (suc k) (omega arith) (omega (arith, q)))))

-- plain bytes were put behind what stands in a buffer; so one byte more; and then nothing is left
run_put : (old d new whole : List ℕ) (n : ℕ) → n ≤ length d → PlainBetween d 0 n → new ≡ old ++ take n d → old ++ unescape d ≡ whole → new ++ unescape (drop n d) ≡ whole
run_put old d new whole n le plain put h = ap (λ x. x ++ unescape (drop n d)) put ∙ append_assoc old (take n d) (unescape (drop n d)) ∙ ap (λ x. old ++ x) (sym (run_kept d n le plain)) ∙ h

byte_put : (old d new whole : List ℕ) (b n : ℕ) → unescape d ≡ b ∷ unescape (drop n d) → new ≡ old ++ b ∷ [] → old ++ unescape d ≡ whole → new ++ unescape (drop n d) ≡ whole
byte_put old d new whole b n front put h = ap (λ x. x ++ unescape (drop n d)) put ∙ append_assoc old (b ∷ []) (unescape (drop n d)) ∙ ap (λ x. old ++ x) (sym front) ∙ h

nothing_left : (new d whole : List ℕ) → unescape d ≡ [] → new ++ unescape d ≡ whole → new ≡ whole
nothing_left new d whole none h = sym (append-nil new) ∙ ap (λ x. new ++ x) (sym none) ∙ h

-- so in the form of slices
module _ (old d mid whole : List ℕ) (n : ℕ) (le : n ≤ length d) (plain : PlainBetween d 0 n) (put : mid ≡ old ++ take n d) (h : old ++ unescape d ≡ whole) where
  run_then : mid ++ unescape (take (length d - n) (drop n d)) ≡ whole
  run_then = ap (λ x. mid ++ unescape x) (take_rest d n) ∙ run_put old d mid whole n le plain put h

  pub run_ends : unescape (take (length d - n) (drop n d)) ≡ [] → mid ≡ whole
  run_ends none = nothing_left mid (take (length d - n) (drop n d)) whole none run_then

  pub run_more : (new : List ℕ) (b used : ℕ) → let e = take (length d - n) (drop n d) in unescape e ≡ b ∷ unescape (drop used e) → new ≡ mid ++ b ∷ [] → new ++ unescape (take (length e - used) (drop used e)) ≡ whole
  run_more new b used front one =
      let e = take (length d - n) (drop n d) in
      ap (λ x. new ++ unescape x) (take_rest e used) ∙ byte_put mid e new whole b used front one run_then

-- ---- what was escaped

digit_back : (v : ℕ) → v < 16 → value_of_digit (digit_char v) ≡ v
digit_back = below_16 (λ v. value_of_digit (digit_char v) ≡ v) refl refl refl refl refl refl refl refl refl refl refl refl refl refl refl refl

byte_back : (x : ℕ) (r : List ℕ) → unescape (escape_byte x ++ r) ≡ x ∷ unescape r
unfolding escape_byte
byte_back x r = elim (cases_eq x 34) [
  | inl e ↦ rw e
  | inr quote ↦ elim (cases_eq x 92) [
    | inl e ↦ rw e
    | inr backslash ↦ elim (cases_eq x 8) [
      | inl e ↦ rw e
      | inr b ↦ elim (cases_eq x 12) [
        | inl e ↦ rw e
        | inr f ↦ elim (cases_eq x 10) [
          | inl e ↦ rw e
          | inr n ↦ elim (cases_eq x 13) [
            | inl e ↦ rw e
            | inr c ↦ elim (cases_eq x 9) [
              | inl e ↦ rw e
              | inr t ↦ elim (cases_lt x 32) [
                | inl low ↦
                    let high_digit = digit_back (x / 16) (omega (arith, low)) in
                    let low_digit = digit_back (x % 16) (omega arith) in
                    let whole : x / 16 * 16 + x % 16 ≡ x = omega arith in
                    rw (ne_eqb x 34 quote, ne_eqb x 92 backslash, ne_eqb x 8 b, ne_eqb x 12 f, ne_eqb x 10 n, ne_eqb x 13 c, ne_eqb x 9 t, lt-ltb x 32 low)
                    (ap (λ (v : ℕ). v ∷ unescape r) (ap₂ (λ (i j : ℕ). i * 16 + j) high_digit low_digit ∙ whole))
                | inr high ↦ ap (λ s. unescape (s ++ r)) (escape_byte_plain x quote backslash high) ∙ rw (ne_eqb x 92 backslash)
              ]
            ]
          ]
        ]
      ]
    ]
  ]
]

-- what was escaped is had back
pub unescape-escape : (s : List ℕ) → unescape (escape s) ≡ s
unescape-escape [] = refl
unescape-escape (x ∷ s) = byte_back x (escape s) ∙ ap (λ r. x ∷ r) (unescape-escape s)

-- ---- bytes

bytes_parts : (a b : List ℕ) → are_bytes (a ++ b) ≡ true → (are_bytes a ≡ true) × (are_bytes b ≡ true)
bytes_parts [] b h = (refl, h)
bytes_parts (x ∷ a) b h =
    let p = and_parts (nat_lt x 256) (are_bytes (a ++ b)) h in
    let q = bytes_parts a b p.1 in
    (and_from (nat_lt x 256) (are_bytes a) p.0 q.0, q.1)

byte_said : (x : ℕ) → are_bytes (escape_byte x) ≡ true → nat_lt x 256 ≡ true
byte_said x h = elim (cases_lt x 128) [
  | inl low ↦ lt-ltb x 256 (omega (arith, low))
  | inr high ↦
      let one : are_bytes (x ∷ []) ≡ true = ap are_bytes (sym (escape_byte_plain x (λ e. omega (arith, e, high)) (λ e. omega (arith, e, high)) (omega (arith, high)))) ∙ h in
      (and_parts (nat_lt x 256) true one).0
]

bytes_said : (s : List ℕ) → are_bytes (escape s) ≡ true → are_bytes s ≡ true
bytes_said [] h = refl
bytes_said (x ∷ s) h =
    let p = bytes_parts (escape_byte x) (escape s) h in
    and_from (nat_lt x 256) (are_bytes s) (byte_said x p.0) (bytes_said s p.1)

-- ---- ASCII

abbrev escapes_below : ℕ → Bool
escapes_below zero = true
escapes_below (suc n) = are_ascii (escape_byte n) && escapes_below n

all_ascii : escapes_below 128 ≡ true
unfolding escape_byte
all_ascii = refl

escape_below : (n : ℕ) → escapes_below n ≡ true → (x : ℕ) → x < n → are_ascii (escape_byte x) ≡ true
escape_below zero e x h = absurd (omega arith)
escape_below (suc n) e x h =
    let p = and_parts _ _ e in
    elim (cases_eq x n) [ inl same ↦ rw same p.0 | inr other ↦ escape_below n p.1 x (omega arith) ]

ascii_at : (s : List ℕ) → are_ascii s ≡ true → (i : ℕ) → get_or s i 0 < 128
ascii_at [] h i = omega arith
ascii_at (x ∷ s) h zero = ltb-true x 128 (and_parts (nat_lt x 128) (are_ascii s) h).0
ascii_at (x ∷ s) h (suc i) = ascii_at s (and_parts (nat_lt x 128) (are_ascii s) h).1 i

one_ascii : (x : ℕ) → x < 128 → (i : ℕ) → get_or (x ∷ []) i 0 < 128
one_ascii x h zero = h
one_ascii x h (suc i) = omega arith

-- a byte with a letter
pub letter_low : (x : ℕ) → 0 < escape_letter x → x < 128
letter_low x some = elim (cases_lt x 128) [
  | inl low ↦ low
  | inr high ↦
      let other : (n : ℕ) → n < 128 → x ≡ n → ⊥ = λ n h e. omega (arith, h, e, high) in
      let none : escape_letter x ≡ 0 =
      rw (ne_eqb x 34 (other 34 (omega arith)), ne_eqb x 92 (other 92 (omega arith)), ne_eqb x 8 (other 8 (omega arith)), ne_eqb x 12 (other 12 (omega arith)), ne_eqb x 10 (other 10 (omega arith)), ne_eqb x 13 (other 13 (omega arith)), ne_eqb x 9 (other 9 (omega arith))) in
      absurd (omega (arith, some, none))
]

pub letter_byte : (x letter : ℕ) → letter ≡ escape_letter x → 0 < letter → 92 ∷ letter ∷ [] ≡ escape_byte x
unfolding escape_byte
letter_byte x letter is some = ap (λ l. 92 ∷ l ∷ []) is ∙ rw (lt-ltb 0 (escape_letter x) (subst (λ l. 0 < l) is some))

-- the first byte of an escape
first_low : (d : List ℕ) (at n x : ℕ) → x < 128 → 0 < n → take n (drop at d) ≡ escape_byte x → get_or d at 0 < 128
first_low d at n x small some shown =
    let same : at ≡ at + 0 = omega arith in
    let first : get_or d at 0 ≡ get_or (escape_byte x) 0 0 = ap (λ k. get_or d k 0) same ∙ sym (get_or-drop at d 0 0) ∙ sym (get_or-take n (drop at d) 0 0 some) ∙ ap (λ s. get_or s 0 0) shown in
    let low = ascii_at (escape_byte x) (escape_below 128 all_ascii x small) 0 in
    omega (arith, first, low)

-- ---- a text that is read

-- so far the content of a text was read, as it is printed
abbrev pub IsBegun : List ℕ → ℕ → Type 0
IsBegun d at = (at ≤ length d) × (IsCharBoundary d at × ((s : List ℕ) × (IsUtf8 s × (take at d ≡ escape s))))

pub begun : (d : List ℕ) → IsUtf8 d → IsBegun d 0
begun d u = (omega arith, (IsCharBoundary-start d u, ([], (IsUtf8-nil, refl))))

pub run_read : (d : List ℕ) (at count stop : ℕ) → stop ≡ at + count → IsUtf8 d → IsBegun d at → stop < length d → get_or d stop 0 < 128 → PlainBetween (drop at d) 0 count → IsBegun d stop
run_read d at count stop is u h within low plain =
    let rest = drop at d in
    let x = take count rest in
    let ends = IsCharBoundary-before_ascii d stop within low in
    let size : stop - at ≡ count = omega (arith, is) in
    let said = h.1.1 in
    let text : IsUtf8 x = subst (λ n. IsUtf8 (take n rest)) size (IsUtf8-between d at stop u (omega (arith, is)) h.1.0 ends) in
    let long : length x ≡ count = length-take-le count rest (omega (arith, is, within, length-drop at d)) in
    let same : escape x ≡ x = escape_on_plain true x (λ k p q. ap is_plain (get_or-take count rest k 0 (omega (arith, q, long))) ∙ plain k p (omega (arith, q, long))) in (
      omega (arith, within),
      (ends, (said.0 ++ x, (IsUtf8-append said.0 x said.1.0 text, ap (λ n. take n d) is ∙ take-add at count d ∙ ap₂ (λ (a b : List ℕ). a ++ b) said.1.1 (sym same) ∙ sym (flat_map-append escape_byte said.0 x)))),
    )

pub escape_read : (d : List ℕ) (at n next x : ℕ) → next ≡ at + n → IsUtf8 d → IsBegun d at → x < 128 → 0 < n → next ≤ length d → take n (drop at d) ≡ escape_byte x → IsBegun d next
escape_read d at n next x is u h small some within shown =
    let said = h.1.1 in
    let last : get_or d (at + (n - 1)) 0 ≡ get_or (escape_byte x) (n - 1) 0 = sym (get_or-drop at d (n - 1) 0) ∙ sym (get_or-take n (drop at d) (n - 1) 0 (omega (arith, some))) ∙ ap (λ s. get_or s (n - 1) 0) shown in
    let low = ascii_at (escape_byte x) (escape_below 128 all_ascii x small) (n - 1) in
    let after : at + (n - 1) + 1 ≡ next = omega (arith, is, some) in
    let ends = subst (IsCharBoundary d) after (IsCharBoundary-after_ascii d (at + (n - 1)) u (omega (arith, is, some, within)) (omega (arith, last, low))) in (
      within,
      (ends, (said.0 ++ x ∷ [], (IsUtf8-append said.0 (x ∷ []) said.1.0 (IsUtf8-from_ascii (x ∷ []) (one_ascii x small)), ap (λ m. take m d) is ∙ take-add at n d ∙ ap₂ (λ (a b : List ℕ). a ++ b) said.1.1 (shown ∙ sym (append-nil (escape_byte x))) ∙ sym (flat_map-append escape_byte said.0 (x ∷ []))))),
    )

pub piece_read : (d : List ℕ) (at count stop n next x : ℕ) → stop ≡ at + count → next ≡ stop + n → IsUtf8 d → IsBegun d at → PlainBetween (drop at d) 0 count → x < 128 → 0 < n → next ≤ length d → take n (drop stop d) ≡ escape_byte x → IsBegun d next
piece_read d at count stop n next x is then u h plain small some within shown =
    escape_read d stop n next x then u (run_read d at count stop is u h (omega (arith, then, some, within)) (first_low d stop n x small some shown) plain) small some within shown

bytes_front : (n : ℕ) (d : List ℕ) → are_bytes d ≡ true → are_bytes (take n d) ≡ true
bytes_front zero d h = refl
bytes_front (suc n) [] h = refl
bytes_front (suc n) (x ∷ d) h = let p = and_parts (nat_lt x 256) (are_bytes d) h in and_from (nat_lt x 256) (are_bytes (take n d)) p.0 (bytes_front n d p.1)

pub text_ends : (d : List ℕ) (end : ℕ) → are_bytes d ≡ true → IsBegun d end → (s : List ℕ) × IsPrintedText (take end d) s
text_ends d end are h =
    let said = h.1.1 in
    (said.0, ((bytes_said said.0 (ap are_bytes (sym said.1.1) ∙ bytes_front end d are), is_utf8-from_IsUtf8 said.0 said.1.0), said.1.1))

-- so of the bytes of a text, in the form of slices of them
module _ (d b : List ℕ) (same : b ≡ d) (u : IsUtf8 d) (at count : ℕ) (h : IsBegun d at) (plain : PlainBetween (take (length b - at) (drop at b)) 0 count) where
  plain_of : PlainBetween (drop at d) 0 count
  plain_of = subst (λ r. PlainBetween r 0 count) (take_rest b at ∙ ap (drop at) same) plain

  pub quote_found : are_bytes d ≡ true → at + count < length b → get_or b (at + count) 0 ≡ 34 → (at + count < length d) × ((get_or d (at + count) 0 ≡ 34) × ((s : List ℕ) × IsPrintedText (take (at + count) d) s))
  quote_found are within is =
      let long = subst (λ x. at + count < length x) same within in
      let byte : get_or d (at + count) 0 ≡ 34 = ap (λ x. get_or x (at + count) 0) (sym same) ∙ is in
      (long, (byte, text_ends d (at + count) are (run_read d at count (at + count) refl u h long (omega (arith, byte)) plain_of)))

  pub escape_found : (n : ℕ) → (0 < n) × ((n ≤ length (take (length b - (at + count)) (drop (at + count) b))) × ((x : ℕ) × ((x < 128) × (take n (take (length b - (at + count)) (drop (at + count) b)) ≡ escape_byte x)))) → IsBegun d (at + count + n)
  escape_found n found =
      let rest : take (length b - (at + count)) (drop (at + count) b) ≡ drop (at + count) d = take_rest b (at + count) ∙ ap (drop (at + count)) same in
      let long : n ≤ length d - (at + count) = subst (λ k. n ≤ k) (ap length rest ∙ length-drop (at + count) d) found.1.0 in
      piece_read d at count (at + count) n (at + count + n) found.1.1.0 refl refl u h plain_of found.1.1.1.0 found.0 (omega (arith, long, found.0)) (ap (take n) (sym rest) ∙ found.1.1.1.1)
