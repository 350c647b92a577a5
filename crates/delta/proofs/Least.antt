-- Least deltas, and what other deltas are above them.
use Rattle.std.proofs.Common.{◌≡◌, ℕ, ◌+◌, ◌-◌, ◌^◌, ◌<◌, ◌≤◌, Bool, true, false, min, List, [], ◌∷◌, ◌++◌, length, get_or, map, replicate, refl, sym, ap, ◌∙◌, arith, inl, inr, FitsSigned}
use Rattle.std.specs.Prelude.{ℤ, pos, negsuc, ◌+ℤ◌, ◌-ℤ◌, ◌≤ℤ◌, int_lt}
use Rattle.std.specs.Int.{Width, w32, w64, int_wrap, int_min, cast_signed, cast_unsigned}
use Rattle.std.specs.Int.Signed.{≤ℤ_refl}
use Rattle.std.proofs.lemmas.Int.{ints, of_z-to_z}
use Rattle.std.proofs.lemmas.Bool.{cases_lt}
use Rattle.std.proofs.lemmas.List.{length-map, length-append, length-replicate, get_or-map, get_or_append_left, get_or-append-add, get_or-replicate, ext_get_or}
use Rattle.std.proofs.lemmas.List.Elements.{All-nil, All-cons, All-push, All-weaker, Contains-append_left, Contains-append_right}
use Rattle.std.proofs.lemmas.List.FromFn.{length-map-range_with_len, get_or-map-range_with_len}
use Rattle.delta.specs.Written.{delta_at, deltas_from, IsLeast}
use Rattle.delta.proofs.Wrap.{signed_is, narrow_signed_is}

-- the least of one number
pub least_of_one : (d : ℤ) → IsLeast (d ∷ []) d
least_of_one d = record { there = (0, omega arith, refl); below = All-cons (λ z. d ≤ℤ z) d [] (≤ℤ_refl d) (All-nil (λ z. d ≤ℤ z)) }

-- and of one more
pub least_more : (ds : List ℤ) (least d : ℤ) → IsLeast ds least → IsLeast (ds ++ d ∷ []) (int_min least d)
least_more ds least d p = by (int_lt d least) refl
  where
    lower : (z : ℤ) → int_lt d least ≡ true → least ≤ℤ z → d ≤ℤ z
    lower z lt le = grind (arith, ints)

    by : (b : Bool) → int_lt d least ≡ b → IsLeast (ds ++ d ∷ []) (int_min least d)
    by true lt = rw lt record {
      there = Contains-append_right ds (d ∷ []) d (0, omega arith, refl);
      below = All-push (λ z. d ≤ℤ z) ds d (All-weaker (λ z. least ≤ℤ z) (λ z. d ≤ℤ z) (λ z. lower z lt) ds p.below) (≤ℤ_refl d);
    }
    by false ge = rw ge record {
      there = Contains-append_left ds (d ∷ []) least p.there;
      below = All-push (λ z. least ≤ℤ z) ds d p.below (let le : least ≤ℤ d = grind (arith, ints) in le);
    }

-- a number of w bits is what the difference is above the least one
above : (least delta : ℤ) → least ≤ℤ delta → (d : ℕ) × (delta -ℤ least ≡ pos d)
above least delta le = by (delta -ℤ least) refl
  where
    by : (z : ℤ) → delta -ℤ least ≡ z → (d : ℕ) × (delta -ℤ least ≡ pos d)
    by (pos d) is = (d, is)
    by (negsuc n) is = absurd (omega (arith, ints, is, le))

back : (least delta : ℤ) (d : ℕ) → delta -ℤ least ≡ pos d → least +ℤ pos d ≡ delta
back least delta d is = omega (arith, ints, is)

pub exact_64 : (least delta gap : ℤ) (number : ℕ) → FitsSigned w64 least → FitsSigned w64 delta → gap ≡ int_wrap w64 (delta -ℤ least) → number ≡ cast_unsigned w64 gap → least ≤ℤ delta
    → least +ℤ pos number ≡ delta
exact_64 least delta gap number least_fits delta_fits gap_is number_is le =
    let d = (above least delta le).0 in
    let is = (above least delta le).1 in
    let lt : d < 2 ^ 64 = omega (arith, ints, is, least_fits, delta_fits) in
    let e : gap ≡ cast_signed w64 d = gap_is ∙ ap (int_wrap w64) is ∙ sym (signed_is d lt) in
    let same : number ≡ d = number_is ∙ ap (cast_unsigned w64) e ∙ of_z-to_z w64 d lt in
    ap (λ (k : ℕ). least +ℤ pos k) same ∙ back least delta d is

pub exact_32 : (least delta gap : ℤ) (number : ℕ) → FitsSigned w32 least → FitsSigned w32 delta → gap ≡ int_wrap w32 (delta -ℤ least) → number ≡ cast_unsigned w32 gap → least ≤ℤ delta
    → least +ℤ pos number ≡ delta
exact_32 least delta gap number least_fits delta_fits gap_is number_is le =
    let d = (above least delta le).0 in
    let is = (above least delta le).1 in
    let lt : d < 2 ^ 32 = omega (arith, ints, is, least_fits, delta_fits) in
    let e : gap ≡ cast_signed w32 d = gap_is ∙ ap (int_wrap w32) is ∙ sym (narrow_signed_is d lt) in
    let same : number ≡ d = number_is ∙ ap (cast_unsigned w32) e ∙ of_z-to_z w32 d lt in
    ap (λ (k : ℕ). least +ℤ pos k) same ∙ back least delta d is

-- numbers that are what the deltas are above the least one, and zeros after them
pub filled_up : (w : Width) (values : List ℤ) (first count : ℕ) (least : ℤ) (numbers : List ℕ) → length numbers ≡ 128 → count ≡ min 128 (length values - 1 - first)
    → ((k : ℕ) → k < count → least +ℤ pos (get_or numbers k 0) ≡ delta_at w values (first + k)) → ((k : ℕ) → count ≤ k → get_or numbers k 0 ≡ 0)
    → map (λ x. least +ℤ pos x) numbers ≡ deltas_from w values first ++ replicate (128 - length (deltas_from w values first)) least
filled_up w values first count least numbers size count_is here after = ext_get_or (pos 0) (map (λ x. least +ℤ pos x) numbers) (ds ++ zeros) lengths each
  where
    ds : List ℤ
    ds = deltas_from w values first

    ds_size : length ds ≡ count
    ds_size = length-map-range_with_len (delta_at w values) first (min 128 (length values - 1 - first)) ∙ sym count_is

    zeros : List ℤ
    zeros = replicate (128 - length ds) least

    zeros_size : length zeros ≡ 128 - length ds
    zeros_size = length-replicate (128 - length ds) least

    lengths : length (map (λ x. least +ℤ pos x) numbers) ≡ length (ds ++ zeros)
    lengths = omega (arith, length-map numbers (λ x. least +ℤ pos x), size, length-append ds zeros, ds_size, zeros_size, count_is)

    no_more : (z : ℤ) → z +ℤ pos 0 ≡ z
    no_more z = omega (arith, ints)

    each : (i : ℕ) → i < length (map (λ x. least +ℤ pos x) numbers) → get_or (map (λ x. least +ℤ pos x) numbers) i (pos 0) ≡ get_or (ds ++ zeros) i (pos 0)
    each i lt =
        let inside : i < length numbers = omega (arith, lt, length-map numbers (λ x. least +ℤ pos x)) in
        let one : get_or (map (λ x. least +ℤ pos x) numbers) i (pos 0) ≡ least +ℤ pos (get_or numbers i 0) = get_or-map (λ x. least +ℤ pos x) numbers i 0 (pos 0) inside in
        elim (cases_lt i count) [
          | inl below ↦ one ∙ here i below ∙ sym (get_or-map-range_with_len (delta_at w values) first (min 128 (length values - 1 - first)) i (first + i) (pos 0) (omega (arith, below, count_is)) refl)
              ∙ sym (get_or_append_left ds zeros (pos 0) i (omega (arith, below, ds_size)))
          | inr over ↦
              let e : length ds + (i - length ds) ≡ i = omega (arith, over, ds_size) in
              let there : get_or (ds ++ zeros) i (pos 0) ≡ least = ap (λ (k : ℕ). get_or (ds ++ zeros) k (pos 0)) (sym e) ∙ get_or-append-add ds zeros (i - length ds) (pos 0)
              ∙ get_or-replicate (128 - length ds) (i - length ds) least (pos 0) (omega (arith, inside, size, over, ds_size)) in
              one ∙ ap (λ (k : ℕ). least +ℤ pos k) (after i over) ∙ no_more least ∙ sym there
        ]

-- the difference from the value before index `at` to the one there
pub delta_read : (w : Width) (values : List ℤ) (at : ℕ) (value next : ℤ) (i : ℕ) → i + 1 ≡ at → get_or values (at - 1) (pos 0) ≡ value → get_or values at (pos 0) ≡ next
    → int_wrap w (next -ℤ value) ≡ delta_at w values i
delta_read w values at value next i is value_is next_is =
    let before : i ≡ at - 1 = omega (arith, is) in
    let second : get_or values (i + 1) (pos 0) ≡ next = ap (λ (k : ℕ). get_or values k (pos 0)) is ∙ next_is in
    let first : get_or values i (pos 0) ≡ value = ap (λ (k : ℕ). get_or values k (pos 0)) before ∙ value_is in
    ap (λ (z : ℤ). int_wrap w (z -ℤ value)) (sym second) ∙ ap (λ (z : ℤ). int_wrap w (get_or values (i + 1) (pos 0) -ℤ z)) (sym first)

pub wrapped_min : (w : Width) (a b : ℤ) → int_wrap w a ≡ a → int_wrap w b ≡ b → int_wrap w (int_min a b) ≡ int_min a b
wrapped_min w a b p q = by (int_lt b a) refl
  where
    by : (t : Bool) → int_lt b a ≡ t → int_wrap w (int_min a b) ≡ int_min a b
    by true is = rw is q
    by false is = rw is p
