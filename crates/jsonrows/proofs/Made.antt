-- Values that are made one by one of the items of a slice.
use Rattle.std.proofs.Common.{◌≡◌, ℕ, ◌+◌, ◌<◌, List, [], ◌∷◌, ◌++◌, length, get_or, map, drop, Result, Ok, sym, ap, ◌∙◌}
use Rattle.std.proofs.lemmas.List.{map-append, drop_more}
use Rattle.lists.proofs.Slices.{map_drop_here as reads}
use Rattle.bits.specs.declared.refusal.Refusal.{Refusal}
use Rattle.filter.specs.Terms.{each_of}
use Rattle.filter.proofs.Made.{before, made_more}

pub one_more_made : {A B X Y : Type 0} (see : A → X) (seen : B → Y) (f : X → Result Y Refusal) (xs : List A) (i : ℕ) (x : A) (made new : List B) (y : B) (w : Result (List Y) Refusal) → i < length xs → x ≡ get_or xs i x → new ≡ made ++ y ∷ [] → f (see x) ≡ Ok (seen y)
    → before (map seen made) (each_of f (map see (drop i xs))) ≡ w → before (map seen new) (each_of f (map see (drop (i + 1) xs))) ≡ w
one_more_made {A} {B} {X} {Y} see seen f xs i x made new y w lt is grown here so =
    let rest : List X = map see (drop (i + 1) xs) in
    let shown : map seen new ≡ map seen made ++ seen y ∷ [] = ap (map seen) grown ∙ map-append seen made (y ∷ []) in
    ap (λ (ys : List Y). before ys (each_of f rest)) shown ∙ sym (made_more f (see x) (seen y) rest (map seen made) here) ∙ ap (λ (ts : List X). before (map seen made) (each_of f ts)) (sym (reads see xs i x lt is)) ∙ so

-- the same where values are kept as they are made
pub one_more : {A X Y : Type 0} (see : A → X) (f : X → Result Y Refusal) (xs : List A) (i : ℕ) (x : A) (made new : List Y) (y : Y) (w : Result (List Y) Refusal) → i < length xs → x ≡ get_or xs i x → new ≡ made ++ y ∷ [] → f (see x) ≡ Ok y
    → before made (each_of f (map see (drop i xs))) ≡ w → before new (each_of f (map see (drop (i + 1) xs))) ≡ w
one_more {A} {X} {Y} see f xs i x made new y w lt is grown here so =
    let rest : List X = map see (drop (i + 1) xs) in
    ap (λ (ys : List Y). before ys (each_of f rest)) grown ∙ sym (made_more f (see x) y rest made here) ∙ ap (λ (ts : List X). before made (each_of f ts)) (sym (reads see xs i x lt is)) ∙ so

-- the same of things that are seen as they are
pub one_more_shown : {A B Y : Type 0} (seen : B → Y) (f : A → Result Y Refusal) (xs : List A) (i : ℕ) (x : A) (made new : List B) (y : B) (w : Result (List Y) Refusal) → i < length xs → x ≡ get_or xs i x → new ≡ made ++ y ∷ [] → f x ≡ Ok (seen y)
    → before (map seen made) (each_of f (drop i xs)) ≡ w → before (map seen new) (each_of f (drop (i + 1) xs)) ≡ w
one_more_shown {A} {B} {Y} seen f xs i x made new y w lt is grown here so =
    let rest : List A = drop (i + 1) xs in
    let at : drop i xs ≡ x ∷ rest = drop_more xs i x lt ∙ ap (λ (z : A). z ∷ rest) (sym is) in
    let shown : map seen new ≡ map seen made ++ seen y ∷ [] = ap (map seen) grown ∙ map-append seen made (y ∷ []) in
    ap (λ (ys : List Y). before ys (each_of f rest)) shown ∙ sym (made_more f x (seen y) rest (map seen made) here) ∙ ap (λ (ts : List A). before (map seen made) (each_of f ts)) (sym at) ∙ so
