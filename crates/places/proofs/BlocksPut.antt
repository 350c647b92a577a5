-- A block that was put behind the bytes of a buffer.
use Rattle.std.proofs.Common.{◌≡◌, ◌∙◌, ℕ, List, [], ◌∷◌, ◌++◌, length, drop, None, refl, sym, ap, arith, take-append-drop, length-drop}
use Rattle.std.specs.Prelude.{nat_lt}
use Rattle.places.specs.Blocks.{ReadsBlock, ArePutBehind}

nothing : (l : List ℕ) → length l ≡ 0 → l ≡ []
nothing [] none = refl
nothing (x ∷ l) none = absurd (omega (arith, none))

-- of a file of which nothing is known, so many bytes were read
pub unknown_block : (before after : List ℕ) (n : ℕ) → ArePutBehind before after n → ReadsBlock None None before after (nat_lt 0 n)
unknown_block before after n put = record {
  block = drop (length before) after;
  joined = sym (take-append-drop (length before) after) ∙ ap (λ (t : List ℕ). t ++ drop (length before) after) put.front;
  gone = tt;
  over = λ none. (nothing (drop (length before) after) (grind (arith, none, put.many, length-drop (length before) after)), tt);
}
