-- Bytes and texts.
use Rattle.std.proofs.Common.{ℕ, ◌≡◌, ◌<◌, true, nat_lt, List, [], ◌∷◌, Result, Ok, Err, refl, sym, suc, get_or, Fits, w8, arith}
use Rattle.std.proofs.lemmas.Bool.Decides.{nat_tests}
use Rattle.std.specs.Prelude.{is_ok, MatchResult, IsUtf8}
use Rattle.std.specs.Str.{is_utf8}
use Rattle.schema.specs.Fits.{are_bytes}
use Rattle.std.proofs.lemmas.Str.{IsUtf8-from_is_utf8, is_utf8-from_IsUtf8}
use Rattle.std.proofs.lemmas.Bool.{false_from_ne_true as not_true}

-- what is read as text is UTF-8
pub is_text_just_where : {X E : Type 0} (P : X → Type 0) (r : Result X E) (s : List ℕ) → MatchResult r (λ x. P x × IsUtf8 s) (λ e. ¬ (IsUtf8 s)) → is_ok r ≡ is_utf8 s
is_text_just_where P (Ok x) s h = sym (is_utf8-from_IsUtf8 s h.1)
is_text_just_where P (Err e) s h = sym (not_true (is_utf8 s) (λ t. h (IsUtf8-from_is_utf8 s t)))

is_byte : (b : ℕ) → Fits w8 b → nat_lt b 256 ≡ true
is_byte b h = let lt : b < 256 = omega (arith, h.fits) in grind (arith, nat_tests)

-- bytes of the program are below 256
pub all_bytes : (s : List ℕ) → ((i : ℕ) → Fits w8 (get_or s i 0)) → are_bytes s ≡ true
all_bytes [] f = refl
all_bytes (b ∷ s) f = rw (is_byte b (f 0)) (all_bytes s (λ i. f (suc i)))
