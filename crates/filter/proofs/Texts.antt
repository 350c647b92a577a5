-- Byte strings in sets.
use Rattle.std.proofs.Common.{◌≡◌, ◌||◌, ℕ, Vec, Global, Bool, true, false, not, List, ◌∷◌, refl, ap, sym, ◌∙◌}
use Rattle.std.specs.Prelude.{MatchBool, IsPermutation}
use Rattle.std.specs.List.{list_any}
use Rattle.std.specs.Str.{bytes_eq}
use Rattle.std.specs.Cmp.Lexicographic.{bytes_decides}
use Rattle.std.proofs.lemmas.List.Sorted.{list_any-IsPermutation}
use Rattle.lists.proofs.Booleans.{true_by_false_not as not_false}
use Rattle.filter.specs.inner.Sets.{is_text}

-- a set that has a byte string already has it when it is put in
known : (q text : List ℕ) (keys : List (Vec ℕ Global)) → list_any (is_text text) keys ≡ true → list_any (is_text q) keys ≡ (bytes_eq q text || list_any (is_text q) keys)
known q text keys there = by (bytes_eq q text) refl
  where
    by : (b : Bool) → bytes_eq q text ≡ b → list_any (is_text q) keys ≡ (b || list_any (is_text q) keys)
    by true is = ap (λ (t : List ℕ). list_any (is_text t) keys) ((bytes_decides q text).0 is) ∙ there
    by false is = refl

pub put_text : (keys new : List (Vec ℕ Global)) (copy : Vec ℕ Global) (added : Bool) (q : List ℕ) → added ≡ not (list_any (is_text copy.items) keys)
    → MatchBool added (IsPermutation (copy ∷ keys) new) (new ≡ keys) → list_any (is_text q) new ≡ (bytes_eq q copy.items || list_any (is_text q) keys)
put_text keys new copy true q is put = sym (list_any-IsPermutation (is_text q) (copy ∷ keys) new put)
put_text keys new copy false q is put = ap (list_any (is_text q)) put ∙ known q copy.items keys (not_false (list_any (is_text copy.items) keys) is)
