-- A stable sort puts lists in the order of their keys.
use Rattle.std.proofs.Common.{◌≡◌, ℕ, suc, ◌+◌, ◌<◌, ◌≤◌, Bool, true, false, not, ◌&&◌, List, [], ◌∷◌, ◌++◌, map, length, get_or, refl, sym, ◌∙◌, ap, subst, arith}
use Rattle.std.specs.Prelude.{if◌then◌else◌, cond, filter}
use Rattle.std.specs.List.{AllByRecursion}
use Rattle.std.specs.List.Sorted.{IsSortedBy, IsStableBy, ties}
use Rattle.std.specs.declared.cmp.Ordering.{Ordering}
use Rattle.std.specs.declared.cmp.Ordering.TheVariants.{Less, Equal, Greater}
use Rattle.std.specs.Ordering.{is_le, is_lt, ordering_reverse}
use Rattle.std.proofs.lemmas.Bool.{false≢true, and_parts, and_from as both}
use Rattle.schema.specs.Values.{ValueTree}
use Rattle.partition.specs.Order.{key_cmp}
use Rattle.partition.proofs.SameKeys.{key_total}
use Rattle.table.specs.InOrder.{put_in_order, in_order}
use Rattle.planning.proofs.Ordered.{le, le_trans, le_back, IsInOrder, StartsAt, sorted_stays, in_order_is}

-- at most is not above
le_is : (a b : List ValueTree) → le a b ≡ not (is_lt (key_cmp b a))
le_is a b = by (key_cmp a b) (key_cmp b a) (key_total.antisymm b a)
  where
    by : (o p : Ordering) → p ≡ ordering_reverse o → is_le o ≡ not (is_lt p)
    by Less p e = ap (λ q. not (is_lt q)) (sym e)
    by Equal p e = ap (λ q. not (is_lt q)) (sym e)
    by Greater p e = ap (λ q. not (is_lt q)) (sym e)

turned : (a b : Bool) → (a && b) ≡ (b && a)
turned true true = refl
turned true false = refl
turned false true = refl
turned false false = refl

cons_head : {A : Type 0} {x y : A} {xs ys : List A} → x ∷ xs ≡ y ∷ ys → x ≡ y
cons_head e = cc

cons_tail : {A : Type 0} {x y : A} {xs ys : List A} → x ∷ xs ≡ y ∷ ys → xs ≡ ys
cons_tail e = cc

module _ {A : Type 0} (key : A → List ValueTree) where
  abbrev pub lt : A → A → Bool
  lt x y = is_lt (key_cmp (key x) (key y))

  -- neither key is above the other
  abbrev tie : A → A → Bool
  tie x y = le (key y) (key x) && le (key x) (key y)

  ties_are : (x y : A) → ties lt x y ≡ tie x y
  ties_are x y = λ i. sym (le_is (key y) (key x)) i && sym (le_is (key x) (key y)) i

  same_filter : (x : A) (xs : List A) → filter (ties lt x) xs ≡ filter (tie x) xs
  same_filter x xs = ap (λ (p : A → Bool). filter p xs) (λ i y. ties_are x y i)

  -- ---- in order

  pub sorted_in_order : (xs : List A) → IsSortedBy lt xs → IsInOrder key xs
  sorted_in_order [] s = tt
  sorted_in_order (x ∷ []) s = (tt, tt)
  sorted_in_order (x ∷ y ∷ ys) s = (
    le_is (key x) (key y) ∙ ap not (s 0 x (omega arith) (omega arith)),
    sorted_in_order (y ∷ ys) (λ k d low high.
        let e : suc k + 1 ≡ suc (k + 1) = omega arith in
        subst (λ n. lt (get_or (x ∷ y ∷ ys) n d) (get_or (y ∷ ys) k d) ≡ false) e (s (suc k) d (omega arith) (omega (arith, high)))),
  )

  above_all : (k : List ValueTree) (xs : List A) → StartsAt key k xs → IsInOrder key xs → AllByRecursion (λ y. le k (key y) ≡ true) xs
  above_all k [] s o = tt
  above_all k (x ∷ xs) s o = (s, above_all k xs (starts xs o.0) o.1)
    where
      starts : (ys : List A) → StartsAt key (key x) ys → StartsAt key k ys
      starts [] t = tt
      starts (y ∷ ys) t = le_trans k (key x) (key y) s t

  -- none of those above a key that is above another ties with that one
  none_tie : (p : A) (k : List ValueTree) (xs : List A) → le k (key p) ≡ false → AllByRecursion (λ y. le k (key y) ≡ true) xs → filter (tie p) xs ≡ []
  none_tie p k [] h a = refl
  none_tie p k (y ∷ ys) h a = ap (λ b. cond b (y ∷ filter (tie p) ys) (filter (tie p) ys)) (no (le (key y) (key p)) refl) ∙ none_tie p k ys h a.1
    where
      no : (b : Bool) → le (key y) (key p) ≡ b → tie p y ≡ false
      no true e = absurd (false≢true (sym h ∙ le_trans k (key y) (key p) a.0 e))
      no false e = ap (λ c. c && le (key p) (key y)) e

  ties_itself : (x : A) → tie x x ≡ true
  ties_itself x = by (le (key x) (key x)) refl
    where
      by : (b : Bool) → le (key x) (key x) ≡ b → tie x x ≡ true
      by true e = both (le (key x) (key x)) (le (key x) (key x)) e e
      by false e = absurd (false≢true (sym e ∙ le_back (key x) (key x) e))

  kept : (p : A → Bool) (x : A) (xs : List A) → p x ≡ true → filter p (x ∷ xs) ≡ x ∷ filter p xs
  kept p x xs e = ap (λ b. cond b (x ∷ filter p xs) (filter p xs)) e

  dropped : (p : A → Bool) (x : A) (xs : List A) → p x ≡ false → filter p (x ∷ xs) ≡ filter p xs
  dropped p x xs e = ap (λ b. cond b (x ∷ filter p xs) (filter p xs)) e

  -- ---- one list

  nothing : (x : A) (xs : List A) → x ∷ xs ≡ [] → ⊥
  nothing x xs e = cc

  pub one_order : (xs ys : List A) → IsInOrder key xs → IsInOrder key ys → ((p : A) → filter (tie p) xs ≡ filter (tie p) ys) → xs ≡ ys
  one_order [] [] o q same = refl
  one_order [] (y ∷ ys) o q same = absurd (nothing y (filter (tie y) ys) (sym (kept (tie y) y ys (ties_itself y)) ∙ sym (same y)))
  one_order (x ∷ xs) [] o q same = absurd (nothing x (filter (tie x) xs) (sym (kept (tie x) x xs (ties_itself x)) ∙ same x))
  one_order (x ∷ xs) (y ∷ ys) o q same = by (le (key x) (key y)) (le (key y) (key x)) refl refl (λ rest. one_order xs ys o.1 q.1 rest)
    where
      by : (a b : Bool) → le (key x) (key y) ≡ a → le (key y) (key x) ≡ b → (((p : A) → filter (tie p) xs ≡ filter (tie p) ys) → xs ≡ ys) → x ∷ xs ≡ y ∷ ys
      by false b e f next = absurd (nothing y (filter (tie y) ys) (sym (kept (tie y) y ys (ties_itself y)) ∙ sym (same y) ∙ none_tie y (key x) (x ∷ xs) e (above_all (key x) (x ∷ xs) (itself x) o)))
        where
          itself : (z : A) → le (key z) (key z) ≡ true
          itself z = (and_parts (le (key z) (key z)) (le (key z) (key z)) (ties_itself z)).0
      by true false e f next = absurd (nothing x (filter (tie x) xs) (sym (kept (tie x) x xs (ties_itself x)) ∙ same x ∙ none_tie x (key y) (y ∷ ys) f (above_all (key y) (y ∷ ys) (and_parts (le (key y) (key y)) (le (key y) (key y)) (ties_itself y)).0 q)))
      by true true e f next =
          let rest : xs ≡ ys = next (λ p. later p (tie p x) refl) in
          λ i. first_is i ∷ rest i
        where
          first_is : x ≡ y
          first_is = cons_head (sym (kept (tie x) x xs (ties_itself x)) ∙ same x ∙ kept (tie x) y ys (both (le (key y) (key x)) (le (key x) (key y)) f e))

          later : (p : A) (b : Bool) → tie p x ≡ b → filter (tie p) xs ≡ filter (tie p) ys
          later p true t = cons_tail (sym (kept (tie p) x xs t) ∙ same p ∙ kept (tie p) y ys (ap (tie p) (sym first_is) ∙ t))
          later p false t = sym (dropped (tie p) x xs t) ∙ same p ∙ dropped (tie p) y ys (ap (tie p) (sym first_is) ∙ t)

  -- ---- the order is stable

  -- what is passed over is below, and does not tie with what ties with the new one
  put_stable : (p x : A) (xs : List A) → filter (tie p) (put_in_order key x xs) ≡ filter (tie p) (x ∷ xs)
  put_stable p x [] = refl
  put_stable p x (y ∷ ys) = by (le (key x) (key y)) refl (put_stable p x ys)
    where
      below : le (key x) (key y) ≡ false → tie p x ≡ true → (b : Bool) → tie p y ≡ b → tie p y ≡ false
      below h t false e = e
      below h t true e =
          let xp = and_parts (le (key x) (key p)) (le (key p) (key x)) t in
          let yp = and_parts (le (key y) (key p)) (le (key p) (key y)) e in
          absurd (false≢true (sym h ∙ le_trans (key x) (key p) (key y) xp.0 yp.1))

      passed : le (key x) (key y) ≡ false → filter (tie p) (put_in_order key x ys) ≡ filter (tie p) (x ∷ ys) → (b : Bool) → tie p x ≡ b → filter (tie p) (y ∷ put_in_order key x ys) ≡ filter (tie p) (x ∷ y ∷ ys)
      passed h r true t =
          let f = below h t (tie p y) refl in
          dropped (tie p) y (put_in_order key x ys) f ∙ r ∙ kept (tie p) x ys t ∙ ap (λ zs. x ∷ zs) (sym (dropped (tie p) y ys f)) ∙ sym (kept (tie p) x (y ∷ ys) t)
      passed h r false t =
          ap (λ zs. cond (tie p y) (y ∷ zs) zs) (r ∙ dropped (tie p) x ys t) ∙ sym (dropped (tie p) x (y ∷ ys) t)

      by : (b : Bool) → le (key x) (key y) ≡ b → filter (tie p) (put_in_order key x ys) ≡ filter (tie p) (x ∷ ys)
          → filter (tie p) (if b then x ∷ y ∷ ys else y ∷ put_in_order key x ys) ≡ filter (tie p) (x ∷ y ∷ ys)
      by true e r = refl
      by false e r = passed e r (tie p x) refl

  order_stable : (p : A) (xs : List A) → filter (tie p) (in_order key xs) ≡ filter (tie p) xs
  order_stable p [] = refl
  order_stable p (x ∷ xs) = put_stable p x (in_order key xs) ∙ ap (λ zs. cond (tie p x) (x ∷ zs) zs) (order_stable p xs)

  pub sorted_is_in_order : (old new : List A) → IsSortedBy lt new → IsStableBy lt old new → new ≡ in_order key old
  sorted_is_in_order old new sorted stable =
      one_order new (in_order key old) (sorted_in_order new sorted) (in_order_is key old) (λ p. sym (same_filter p new) ∙ stable p ∙ same_filter p old ∙ sym (order_stable p old))

  -- ---- those that are in order behind others

  pub order_twice : (old new : List A) → in_order key (old ++ in_order key new) ≡ in_order key (old ++ new)
  order_twice [] new = sorted_stays key (in_order key new) (in_order_is key new)
  order_twice (x ∷ old) new = ap (put_in_order key x) (order_twice old new)

-- what is seen of a list in order
module _ {A B : Type 0} (key : B → List ValueTree) (f : A → B) where
  put_seen : (x : A) (xs : List A) → put_in_order key (f x) (map f xs) ≡ map f (put_in_order (λ y. key (f y)) x xs)
  put_seen x [] = refl
  put_seen x (y ∷ ys) = by (le (key (f x)) (key (f y))) (put_seen x ys)
    where
      by : (b : Bool) → put_in_order key (f x) (map f ys) ≡ map f (put_in_order (λ z. key (f z)) x ys)
          → (if b then f x ∷ f y ∷ map f ys else f y ∷ put_in_order key (f x) (map f ys)) ≡ map f (if b then x ∷ y ∷ ys else y ∷ put_in_order (λ z. key (f z)) x ys)
      by true r = refl
      by false r = ap (λ zs. f y ∷ zs) r

  pub order_seen : (xs : List A) → in_order key (map f xs) ≡ map f (in_order (λ y. key (f y)) xs)
  order_seen [] = refl
  order_seen (x ∷ xs) = ap (put_in_order key (f x)) (order_seen xs) ∙ put_seen x (in_order (λ y. key (f y)) xs)
