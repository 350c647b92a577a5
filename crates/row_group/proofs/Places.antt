-- What a loop over the places of a list has read.
use Rattle.std.proofs.Common.{◌≡◌, ℕ, ◌<◌, List, map, length, get_or, sym, ap, ◌∙◌, arith}
use Rattle.std.specs.List.{Any}
use Rattle.std.proofs.lemmas.List.{get_or-map, length-map}

pub any_here : {A B : Type 0} (P : B → Type 0) (f : A → B) (xs : List A) (i : ℕ) (x : A) → i < length xs → x ≡ get_or xs i x → P (f x) → Any P (map f xs)
any_here P f xs i x lt e p = (i, f x, omega (arith, lt, length-map xs f), get_or-map f xs i x (f x) lt ∙ ap f (sym e), p)
