-- Values that are sums of deltas.
use Rattle.std.proofs.Common.{◌≡◌, ℕ, zero, suc, ◌+◌, ◌-◌, ◌<◌, ◌≤◌, List, [], ◌∷◌, ◌++◌, length, get_or, take, map, replicate, refl, sym, ap, subst, ◌∙◌, arith, append_assoc}
use Rattle.std.specs.Prelude.{ℤ, pos, ◌+ℤ◌}
use Rattle.std.specs.Int.{Width, int_wrap}
use Rattle.std.proofs.lemmas.List.{append-nil, take-append-le, take_all, length-append, map-append, get_or_at, get_or-map, length-map}
use Rattle.std.proofs.lemmas.List.FromFn.{length-map-range_with_len, get_or-map-range_with_len, map-range_with_len_more, fill_by_all}
use Rattle.std.proofs.lemmas.Int.{ints, int_wrap-add_left}
use Rattle.delta.specs.Delta.{total, sums}
use Rattle.delta.specs.inner.Taken.{Adds, deltas_of}

abbrev pub sum_at : Width → ℤ → List ℤ → ℕ → ℤ
sum_at w first deltas i = int_wrap w (first +ℤ total (take i deltas))

pub length-sums : (w : Width) (first : ℤ) (deltas : List ℤ) (n : ℕ) → length (sums w first deltas n) ≡ n
length-sums w first deltas n = length-map-range_with_len (sum_at w first deltas) 0 n

-- the first deltas are enough for the first values
pub sums_front : (w : Width) (first : ℤ) (deltas more : List ℤ) (n : ℕ) → n ≤ length deltas + 1 → sums w first (deltas ++ more) n ≡ sums w first deltas n
sums_front w first deltas more n few = fill_by_all (sum_at w first deltas) (sums w first (deltas ++ more) n) n (pos 0) (length-sums w first (deltas ++ more) n) each
  where
    each : (k : ℕ) → k < n → get_or (sums w first (deltas ++ more) n) k (pos 0) ≡ sum_at w first deltas k
    each k lt = get_or-map-range_with_len (sum_at w first (deltas ++ more)) 0 n k k (pos 0) lt (omega arith)
        ∙ ap (λ (ds : List ℤ). int_wrap w (first +ℤ total ds)) (take-append-le k deltas more (omega arith))

add_assoc : (a b c : ℤ) → a +ℤ (b +ℤ c) ≡ (a +ℤ b) +ℤ c
add_assoc a b c = omega (arith, ints)

total_push : (ds : List ℤ) (d : ℤ) → total (ds ++ d ∷ []) ≡ total ds +ℤ d
total_push [] d = omega (arith, ints)
total_push (x ∷ ds) d = ap (λ (z : ℤ). x +ℤ z) (total_push ds d) ∙ add_assoc x (total ds) d

pub adds_nothing : (w : Width) (old : List ℤ) → Adds w [] old old
adds_nothing w old = λ first before is. is ∙ ap (λ (t : List ℤ). sums w first t (length t + 1)) (sym (append-nil before))

pub adds_both : (w : Width) (a b old mid new : List ℤ) → Adds w a old mid → Adds w b mid new → Adds w (a ++ b) old new
adds_both w a b old mid new p q = λ first before is. q first (before ++ a) (p first before is) ∙ ap (λ (t : List ℤ). sums w first t (length t + 1)) (append_assoc before a b)

pub adds_one : (w : Width) (sum next d : ℤ) (old new : List ℤ) → get_or old (length old - 1) (pos 0) ≡ sum → next ≡ int_wrap w (sum +ℤ d) → new ≡ old ++ next ∷ [] → Adds w (d ∷ []) old new
adds_one w sum next d old new last next_is put = λ first before is.
    let count = length before in
    let size : length old ≡ count + 1 = ap length is ∙ length-sums w first before (count + 1) in
    let at : length old - 1 ≡ count = omega arith in
    let here : get_or old (length old - 1) (pos 0) ≡ int_wrap w (first +ℤ total before) =
    ap (λ (k : ℕ). get_or old k (pos 0)) at ∙ ap (λ (xs : List ℤ). get_or xs count (pos 0)) is
    ∙ get_or-map-range_with_len (sum_at w first before) 0 (count + 1) count count (pos 0) (omega arith) (omega arith)
    ∙ ap (λ (ds : List ℤ). int_wrap w (first +ℤ total ds)) (take_all count before (omega arith)) in
    let ds = before ++ d ∷ [] in
    let more : length ds ≡ count + 1 = length-append before (d ∷ []) in
    let whole : take (count + 1) ds ≡ ds = take_all (count + 1) ds (omega arith) in
    let sum_is : next ≡ sum_at w first ds (count + 1) = next_is ∙ ap (λ (z : ℤ). int_wrap w (z +ℤ d)) (sym last ∙ here) ∙ int_wrap-add_left w (first +ℤ total before) d
    ∙ ap (int_wrap w) (sym (add_assoc first (total before) d) ∙ ap (λ (z : ℤ). first +ℤ z) (sym (total_push before d)))
    ∙ ap (λ (xs : List ℤ). int_wrap w (first +ℤ total xs)) (sym whole) in
    let front : old ≡ sums w first ds (count + 1) = is ∙ sym (sums_front w first before (d ∷ []) (count + 1) (omega arith)) in
    let all : sums w first ds (count + 1 + 1) ≡ sums w first ds (count + 1) ++ sum_at w first ds (count + 1) ∷ [] = map-range_with_len_more (sum_at w first ds) 0 (count + 1) (count + 1) (omega arith) in
    put ∙ ap (λ (t : List ℤ). t ++ next ∷ []) front ∙ ap (λ (z : ℤ). sums w first ds (count + 1) ++ z ∷ []) sum_is ∙ sym all ∙ ap (λ (k : ℕ). sums w first ds (k + 1)) (sym more)

-- one more packed number
pub adds_number : (w : Width) (least sum next : ℤ) (xs : List ℕ) (x : ℕ) (old mid new : List ℤ) → Adds w (deltas_of least xs) old mid → get_or mid (length mid - 1) (pos 0) ≡ sum
    → next ≡ int_wrap w (sum +ℤ (least +ℤ pos x)) → new ≡ mid ++ next ∷ [] → Adds w (deltas_of least (xs ++ x ∷ [])) old new
adds_number w least sum next xs x old mid new p last next_is put =
    subst (λ (ds : List ℤ). Adds w ds old new) (sym (map-append (λ y. least +ℤ pos y) xs (x ∷ []))) (adds_both w (deltas_of least xs) ((least +ℤ pos x) ∷ []) old mid new p (adds_one w sum next (least +ℤ pos x) mid new last next_is put))

-- what is seen of the last value
pub last_seen : {A : Type 0} (seen : A → ℤ) (xs : List A) (n : ℕ) (x : A) → 0 < length xs → n ≡ length xs - 1 → x ≡ get_or xs n x → get_or (map seen xs) (length (map seen xs) - 1) (pos 0) ≡ seen x
last_seen seen xs n x some at is =
    let size : length (map seen xs) ≡ length xs = length-map xs seen in
    let e : length (map seen xs) - 1 ≡ n = omega arith in
    ap (λ (k : ℕ). get_or (map seen xs) k (pos 0)) e ∙ get_or-map seen xs n x (pos 0) (omega arith) ∙ ap seen (sym is)

pub pushed_seen : {A : Type 0} (seen : A → ℤ) (xs : List A) (x : A) → map seen (xs ++ x ∷ []) ≡ map seen xs ++ seen x ∷ []
pushed_seen seen xs x = map-append seen xs (x ∷ [])

pub last_pushed : {A : Type 0} (seen : A → ℤ) (xs : List A) (x : A) → get_or (map seen (xs ++ x ∷ [])) (length (map seen (xs ++ x ∷ [])) - 1) (pos 0) ≡ seen x
last_pushed seen xs x =
    let size : length (map seen (xs ++ x ∷ [])) ≡ length (map seen xs) + 1 = ap length (pushed_seen seen xs x) ∙ length-append (map seen xs) (seen x ∷ []) in
    let e : length (map seen (xs ++ x ∷ [])) - 1 ≡ length (map seen xs) = omega arith in
    ap (λ (k : ℕ). get_or (map seen (xs ++ x ∷ [])) k (pos 0)) e ∙ ap (λ (t : List ℤ). get_or t (length (map seen xs)) (pos 0)) (pushed_seen seen xs x) ∙ get_or_at (map seen xs) (seen x) [] (pos 0) (length (map seen xs)) refl

pub replicate_push : (n x : ℕ) → replicate (n + 1) x ≡ replicate n x ++ x ∷ []
replicate_push zero x = refl
replicate_push (suc n) x = ap (λ (k : ℕ). replicate k x) (let e : suc n + 1 ≡ suc (n + 1) = omega arith in e) ∙ ap (λ (t : List ℕ). x ∷ t) (replicate_push n x)
