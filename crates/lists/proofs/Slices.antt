-- Prefixes, rests and items of lists.
use Rattle.std.proofs.Common.{List, [], ap, arith, refl, suc, take, zero, ℕ, ◌∷◌, ◌≡◌, ◌≤◌, length, ◌++◌, ◌-◌, subst, sym, ◌∙◌, ◌+◌, ◌<◌, add-one, get_or, map, drop, Some, slice_get, None, Contains}
use Rattle.std.proofs.lemmas.List.{map_push, take_more, drop_more, at_drop_more, get_or-map, length-map}
use Rattle.std.proofs.lemmas.Option.{none-some}
use Rattle.std.specs.List.{AllByRecursion}
use Rattle.lists.proofs.Lists.{same_first, same_rest}

-- a prefix of a prefix that is no shorter
pub take_twice : (w m : ℕ) (xs : List ℕ) → w ≤ m → take w (take m xs) ≡ take w xs
take_twice zero m xs le = refl
take_twice (suc w) zero xs le = absurd (omega arith)
take_twice (suc w) (suc m) [] le = refl
take_twice (suc w) (suc m) (x ∷ xs) le = ap (λ (t : List ℕ). x ∷ t) (take_twice w m xs (omega (arith, le)))

-- a prefix that is long enough is the list; the list comes first
pub take_whole : {A : Type 0} (xs : List A) (n : ℕ) → length xs ≤ n → take n xs ≡ xs
take_whole [] zero h = refl
take_whole [] (suc n) h = refl
take_whole (x ∷ xs) zero h = absurd (omega (arith, h))
take_whole (x ∷ xs) (suc n) h = ap (λ t. x ∷ t) (take_whole xs n (omega (arith, h)))

-- a prefix as long as the first of two lists is the first
pub take_front : {A : Type 0} (k : ℕ) (xs ys : List A) → length xs ≡ k → take k (xs ++ ys) ≡ xs
take_front zero [] ys e = refl
take_front zero (x ∷ xs) ys e = absurd (omega (arith, e))
take_front (suc k) [] ys e = absurd (omega (arith, e))
take_front (suc k) (x ∷ xs) ys e = ap (λ (zs : List _). x ∷ zs) (take_front k xs ys (omega (arith, e)))

-- a prefix of two lists in a row
pub take_joined : {X : Type 0} (n : ℕ) (xs ys : List X) → take n (xs ++ ys) ≡ take n xs ++ take (n - length xs) ys
take_joined {X = X} zero xs ys = let none : 0 - length xs ≡ 0 = omega arith in subst (λ (k : ℕ). take 0 (xs ++ ys) ≡ take 0 xs ++ take k ys) (sym none) refl
take_joined {X = X} (suc n) [] ys = let all : suc n - length {A = X} [] ≡ suc n = omega arith in ap (λ (k : ℕ). take k ys) (sym all)
take_joined {X = X} (suc n) (x ∷ xs) ys =
    let less : n - length xs ≡ suc n - length (x ∷ xs) = omega arith in
    ap (λ (t : List X). x ∷ t) (take_joined n xs ys) ∙ ap (λ (k : ℕ). x ∷ (take n xs ++ take k ys)) less

-- one item more of a prefix
pub take_next : {A : Type 0} (xs : List A) (i : ℕ) (x : A) → i < length xs → x ≡ get_or xs i x → take (i + 1) xs ≡ take i xs ++ x ∷ []
take_next xs i x h is = rw (add-one i) (by xs i h is)
  where
    by : (ys : List _) (n : ℕ) → n < length ys → x ≡ get_or ys n x → take (suc n) ys ≡ take n ys ++ x ∷ []
    by [] n h is = absurd (omega (arith, h))
    by (y ∷ ys) zero h is = ap (λ (z : _). z ∷ []) (sym is)
    by (y ∷ ys) (suc n) h is = ap (λ zs. y ∷ zs) (by ys n (omega (arith, h)) is)

-- what holds of all items holds of all of a prefix
pub all_take : {A : Type 0} (P : A → Type 0) (n : ℕ) (xs : List A) → AllByRecursion P xs → AllByRecursion P (take n xs)
all_take P zero xs h = tt
all_take P (suc n) [] h = tt
all_take P (suc n) (x ∷ xs) h = (h.0, all_take P n xs h.1)

-- a mapped prefix is the prefix of the mapped list
pub map_take : {A B : Type 0} (f : A → B) (n : ℕ) (xs : List A) → map f (take n xs) ≡ take n (map f xs)
map_take f zero xs = refl
map_take f (suc n) [] = refl
map_take f (suc n) (x ∷ xs) = ap (λ t. f x ∷ t) (map_take f n xs)

-- one item more of a mapped prefix
pub map_take_next : {A B : Type 0} (view : A → B) (xs : List A) (i : ℕ) (x : A) → i < length xs → x ≡ get_or xs i x → map view (take (i + 1) xs) ≡ map view (take i xs) ++ view x ∷ []
map_take_next view xs i x lt is = ap (map view) (take_more xs i x lt) ∙ ap (λ y. map view (take i xs ++ y ∷ [])) (sym is) ∙ map_push view (take i xs) x

-- past the end nothing remains
pub drop_past : {X : Type 0} (xs : List X) (i : ℕ) → length xs ≤ i → drop i xs ≡ []
drop_past [] zero le = refl
drop_past [] (suc i) le = refl
drop_past (x ∷ xs) zero le = absurd (omega (arith, le))
drop_past (x ∷ xs) (suc i) le = drop_past xs i (omega (arith, le))

-- after the first of two lists the second remains
pub drop_front : (a b : List ℕ) → drop (length a) (a ++ b) ≡ b
drop_front [] b = refl
drop_front (x ∷ a) b = drop_front a b

-- from an index on: the item there, and what follows
pub drop_here : {A : Type 0} (xs : List A) (i : ℕ) (x : A) → i < length xs → x ≡ get_or xs i x → drop i xs ≡ x ∷ drop (i + 1) xs
drop_here {A} xs i x h is = drop_more xs i x h ∙ ap (λ (y : A). y ∷ drop (i + 1) xs) (sym is)

-- from an index on where an item was found
pub drop_found : {X : Type 0} (xs : List X) (k : ℕ) (x : X) → slice_get xs k ≡ Some x → drop k xs ≡ x ∷ drop (suc k) xs
drop_found [] k x at = cc
drop_found (y ∷ ys) zero x at = cc
drop_found (y ∷ ys) (suc k) x at = drop_found ys k x at

-- from an index on where an item was found, with the next index as a sum
pub drop_found_more : {X : Type 0} (xs : List X) (i : ℕ) (x : X) → slice_get xs i ≡ Some x → drop i xs ≡ x ∷ drop (i + 1) xs
drop_found_more xs i x is = drop_found xs i x is ∙ ap (λ (n : ℕ). x ∷ drop n xs) (sym (add-one i))

-- where no item was found nothing remains
pub drop_missing : {X : Type 0} (xs : List X) (i : ℕ) → slice_get xs i ≡ None → drop i xs ≡ []
drop_missing [] zero is = refl
drop_missing [] (suc i) is = refl
drop_missing (y ∷ ys) zero is = cc
drop_missing (y ∷ ys) (suc i) is = drop_missing ys i is

-- the lines before one, the line, and the lines after it
pub parts_around : (all : List (List ℕ)) (n : ℕ) (x : List ℕ) → n < length all → x ≡ get_or all n x → all ≡ take n all ++ x ∷ drop (suc n) all
parts_around [] n x h e = absurd (omega arith)
parts_around (y ∷ ys) zero x h e = ap (λ z. z ∷ ys) (sym e)
parts_around (y ∷ ys) (suc n) x h e = ap (λ zs. y ∷ zs) (parts_around ys n x (omega arith) e)

-- from an index on, mapped: the item there, and what follows
pub map_drop_here : {A B : Type 0} (f : A → B) (xs : List A) (i : ℕ) (x : A) → i < length xs → x ≡ get_or xs i x → map f (drop i xs) ≡ f x ∷ map f (drop (i + 1) xs)
map_drop_here {A} f xs i x lt e = at_drop_more (λ (t : List A). map f t) xs i x lt ∙ ap (λ (y : A). f y ∷ map f (drop (i + 1) xs)) (sym e)

-- two lists that look alike from two indexes on look alike there, and after
pub alike_here : {A B C : Type 0} (f : A → C) (g : B → C) (xs : List A) (ys : List B) (i : ℕ) (x : A) (y : B) → i < length xs → i < length ys → x ≡ get_or xs i x → y ≡ get_or ys i y
    → map f (drop i xs) ≡ map g (drop i ys) → (f x ≡ g y) × (map f (drop (i + 1) xs) ≡ map g (drop (i + 1) ys))
alike_here f g xs ys i x y lx ly ex ey h =
    let e : f x ∷ map f (drop (i + 1) xs) ≡ g y ∷ map g (drop (i + 1) ys) = sym (map_drop_here f xs i x lx ex) ∙ h ∙ map_drop_here g ys i y ly ey in
    (same_first _ _ _ _ e, same_rest _ _ _ _ e)

-- two lists that look alike at two indexes, and after, look alike from there on
pub alike_from_here : {A B C : Type 0} (f : A → C) (g : B → C) (xs : List A) (ys : List B) (i : ℕ) (x : A) (y : B) → i < length xs → i < length ys → x ≡ get_or xs i x → y ≡ get_or ys i y
    → f x ≡ g y → map f (drop (i + 1) xs) ≡ map g (drop (i + 1) ys) → map f (drop i xs) ≡ map g (drop i ys)
alike_from_here {A} {B} {C} f g xs ys i x y lx ly ex ey here rest =
    map_drop_here f xs i x lx ex ∙ ap (λ (z : C). z ∷ map f (drop (i + 1) xs)) here ∙ ap (λ (t : List C). g y ∷ t) rest ∙ sym (map_drop_here g ys i y ly ey)

-- an index within a list has an item
pub item_there : {A : Type 0} (xs : List A) (k : ℕ) → k < length xs → (x : A) × (slice_get xs k ≡ Some x)
item_there [] k lt = absurd (omega (arith, lt))
item_there (x ∷ xs) zero lt = (x, refl)
item_there (x ∷ xs) (suc k) lt = item_there xs k (omega (arith, lt))

-- an item stays where it is when more follows
pub slice_get_append : {X : Type 0} (xs ys : List X) (i : ℕ) (x : X) → slice_get xs i ≡ Some x → slice_get (xs ++ ys) i ≡ Some x
slice_get_append [] ys i x h = absurd (none-some x h)
slice_get_append (z ∷ xs) ys zero x h = h
slice_get_append (z ∷ xs) ys (suc i) x h = slice_get_append xs ys i x h

-- an item of the first of two lists
pub slice_get_left : {A : Type 0} (xs ys : List A) (n : ℕ) → n < length xs → slice_get (xs ++ ys) n ≡ slice_get xs n
slice_get_left [] ys n h = absurd (omega (arith, h))
slice_get_left (x ∷ xs) ys zero h = refl
slice_get_left (x ∷ xs) ys (suc n) h = slice_get_left xs ys n (omega (arith, h))

-- an item of the second of two lists
pub slice_get_right : {A : Type 0} (xs ys : List A) (n : ℕ) → length xs ≤ n → slice_get (xs ++ ys) n ≡ slice_get ys (n - length xs)
slice_get_right [] ys n h = let e : n - 0 ≡ n = omega arith in rw e refl
slice_get_right (x ∷ xs) ys zero h = absurd (omega (arith, h))
slice_get_right (x ∷ xs) ys (suc n) h = let e : suc n - suc (length xs) ≡ n - length xs = omega arith in rw e (slice_get_right xs ys n (omega (arith, h)))

-- an item of a mapped list
pub slice_get_map : {X Y : Type 0} (f : X → Y) (xs : List X) (i : ℕ) (x : X) → i < length xs → x ≡ get_or xs i x → slice_get (map f xs) i ≡ Some (f x)
slice_get_map f [] i x h is = absurd (omega (arith, h))
slice_get_map f (y ∷ xs) zero x h is = ap (λ z. Some (f z)) (sym is)
slice_get_map f (y ∷ xs) (suc i) x h is = slice_get_map f xs i x (omega (arith, h)) is

-- an item, mapped, is that of the mapped list
pub get_or_map_here : {A B : Type 0} (f : A → B) (xs : List A) (i : ℕ) (x : A) → i < length xs → x ≡ get_or xs i x → f x ≡ get_or (map f xs) i (f x)
get_or_map_here f xs i x lt e = ap f e ∙ sym (get_or-map f xs i x (f x) lt)

-- what holds of all mapped items holds of one, mapped
pub all_mapped_at : {A B : Type 0} (P : B → Type 0) (f : A → B) (xs : List A) (i : ℕ) (x : A) → i < length xs → x ≡ get_or xs i x → AllByRecursion P (map f xs) → P (f x)
all_mapped_at P f [] i x h is a = absurd (omega (arith, h))
all_mapped_at P f (y ∷ ys) zero x h is a = subst (λ z. P (f z)) (sym is) a.0
all_mapped_at P f (y ∷ ys) (suc i) x h is a = all_mapped_at P f ys i x (omega (arith, h)) is a.1

-- a mapped list contains each item, mapped
pub contains_mapped : {A B : Type 0} (f : A → B) (xs : List A) (i : ℕ) (x : A) → i < length xs → x ≡ get_or xs i x → Contains (map f xs) (f x)
contains_mapped f xs i x lt e = (i, omega (arith, lt, length-map xs f), get_or-map f xs i x (f x) lt ∙ ap f (sym e))
