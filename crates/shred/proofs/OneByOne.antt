-- Loops that change each element of a list in place, one by one.
use Rattle.std.proofs.Common.{ℕ, ◌≡◌, ◌+◌, ◌<◌, ◌≤◌, List, [], ◌∷◌, ◌++◌, map, length, get_or, take, drop, refl, ap, ap₂, sym, ◌∙◌, arith}
use Rattle.std.proofs.Math.ListN.{set}
use Rattle.std.proofs.lemmas.List.{map-append, drop-set-lt, drop_more, take_more, take_more_set, take_all, length-set}
use Rattle.lists.proofs.Lists.{same_first as first_of_two, same_rest as others_of_two}

-- the elements so far are as they become, and the others as they were
pub record IsChanged {A B : Type 0} (f g : A → B) (old new : List A) (i : ℕ) : Type 0 where
  pub done : map f (take i new) ≡ map g (take i old)
  pub left : drop i new ≡ drop i old
  pub size : length new ≡ length old

pub none_changed : {A B : Type 0} (f g : A → B) (xs : List A) → IsChanged f g xs xs 0
none_changed f g xs = record { done = refl; left = refl; size = refl }

-- one element more
pub one_changed : {A B : Type 0} (f g : A → B) (old new : List A) (i : ℕ) (x y : A) → i < length new → f y ≡ g (get_or new i x) → IsChanged f g old new i → IsChanged f g old (set new i y) (i + 1)
one_changed {B = B} f g old new i x y lt same k =
    let size = k.size in
    let there : i < length old = omega (arith, lt, size) in
    let both = sym (drop_more new i x lt) ∙ k.left ∙ drop_more old i x there in
    let here : f y ≡ g (get_or old i x) = same ∙ ap g (first_of_two _ _ _ _ both) in
    record {
      done = ap (map f) (take_more_set new i y lt) ∙ map-append f (take i new) (y ∷ []) ∙ ap₂ (λ (a : List B) (b : B). a ++ b ∷ []) k.done here
          ∙ sym (map-append g (take i old) (get_or old i x ∷ [])) ∙ ap (map g) (sym (take_more old i x there));
      left = drop-set-lt (i + 1) new i y (omega arith) ∙ others_of_two _ _ _ _ both;
      size = length-set new i y ∙ size;
    }

-- all of them
pub all_changed : {A B : Type 0} (f g : A → B) (old new : List A) (i : ℕ) → length old ≤ i → IsChanged f g old new i → map f new ≡ map g old
all_changed f g old new i far k =
    let size = k.size in
    ap (map f) (sym (take_all i new (omega (arith, far, size)))) ∙ k.done ∙ ap (map g) (take_all i old far)
