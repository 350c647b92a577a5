-- Stripes at the fronts of columns.
use Rattle.std.proofs.Common.{ℕ, ◌≡◌, ◌≤◌, List, [], ◌∷◌, ◌++◌, map, length, take, drop, refl, ap, sym, subst, ◌∙◌, arith, append_assoc}
use Rattle.std.specs.List.{AllByRecursion}
use Rattle.std.proofs.lemmas.List.{append_cancel_left, map-append, drop-map}
use Rattle.schema.specs.Stripe.{Entry, Leaf}
use Rattle.assemble.specs.Columns.{Columns, level, AreAlike, Want, Suits, AllSuit, Fronts}
use Rattle.assemble.specs.inner.Fronts.{AreEnds}

-- two stripes of columns, one beside the other
pub fronts_join : (A B old mid sub : Columns) → Fronts A old mid → Fronts B (drop (length A) mid) sub → Fronts (A ++ B) old (take (length A) mid ++ sub)
fronts_join [] B old mid sub h g = subst (λ t. Fronts B t sub) (sym h) g
fronts_join (a ∷ A) B [] mid sub h g = absurd h
fronts_join (a ∷ A) B (o ∷ old) [] sub h g = absurd h
fronts_join (a ∷ A) B (o ∷ old) (m ∷ mid) sub h g = (h.0, fronts_join A B old mid sub h.1 g)

pub fronts_split : (A B old new : Columns) → Fronts (A ++ B) old new → Fronts A old (take (length A) new ++ drop (length A) old) × Fronts B (drop (length A) old) (drop (length A) new)
fronts_split [] B old new h = (refl, h)
fronts_split (a ∷ A) B [] new h = absurd h
fronts_split (a ∷ A) B (o ∷ old) [] h = absurd h
fronts_split (a ∷ A) B (o ∷ old) (n ∷ new) h = let p = fronts_split A B old new h.1 in ((h.0, p.0), p.1)

-- the columns after the stripes stay
pub fronts_behind : (A old new : Columns) → Fronts A old new → drop (length A) old ≡ drop (length A) new
fronts_behind [] old new h = h
fronts_behind (a ∷ A) [] new h = absurd h
fronts_behind (a ∷ A) (o ∷ old) [] h = absurd h
fronts_behind (a ∷ A) (o ∷ old) (n ∷ new) h = fronts_behind A old new h.1

pub fronts_length : (A old new : Columns) → Fronts A old new → length A ≤ length old
fronts_length [] old new h = omega arith
fronts_length (a ∷ A) [] new h = absurd h
fronts_length (a ∷ A) (o ∷ old) [] h = absurd h
fronts_length (a ∷ A) (o ∷ old) (n ∷ new) h = let k = fronts_length A old new h.1 in omega (arith, k)

-- two stripes of each column, one after the other
pub fronts_then : (f g : Leaf → List Entry) (ls : List Leaf) (old mid new : Columns) → Fronts (map f ls) old mid → Fronts (map g ls) mid new → Fronts (map (λ l. f l ++ g l) ls) old new
fronts_then f g [] old mid new h k = h ∙ k
fronts_then f g (l ∷ ls) [] mid new h k = absurd h
fronts_then f g (l ∷ ls) (o ∷ old) [] new h k = absurd h
fronts_then f g (l ∷ ls) (o ∷ old) (m ∷ mid) [] h k = absurd k
fronts_then f g (l ∷ ls) (o ∷ old) (m ∷ mid) (n ∷ new) h k =
    (h.0 ∙ ap (λ t. f l ++ t) k.0 ∙ sym (append_assoc (f l) (g l) n), fronts_then f g ls old mid new h.1 k.1)

-- what is between them
abbrev pub put : Columns → Columns → Columns
put (s ∷ ss) (c ∷ cs) = (s ++ c) ∷ put ss cs
put _ cs = cs

pub fronts_cut : (f g : Leaf → List Entry) (ls : List Leaf) (old new : Columns) → Fronts (map (λ l. f l ++ g l) ls) old new → Fronts (map f ls) old (put (map g ls) new) × Fronts (map g ls) (put (map g ls) new) new
fronts_cut f g [] old new h = (h, refl)
fronts_cut f g (l ∷ ls) [] new h = absurd h
fronts_cut f g (l ∷ ls) (o ∷ old) [] h = absurd h
fronts_cut f g (l ∷ ls) (o ∷ old) (n ∷ new) h = let p = fronts_cut f g ls old new h.1 in ((h.0 ∙ append_assoc (f l) (g l) n, p.0), (refl, p.1))

head_alike : (x y : List Entry) (xs ys : Columns) → AreAlike (x ∷ xs) (y ∷ ys) → map level x ≡ map level y
head_alike x y xs ys h = cc

tail_alike : (x y : List Entry) (xs ys : Columns) → AreAlike (x ∷ xs) (y ∷ ys) → AreAlike xs ys
tail_alike x y xs ys h = cc

pub alike_parts : (x y : List Entry) (xs ys : Columns) → AreAlike (x ∷ xs) (y ∷ ys) → (map level x ≡ map level y) × AreAlike xs ys
alike_parts x y xs ys h = (head_alike x y xs ys h, tail_alike x y xs ys h)

none_alike : (y : List Entry) (ys : Columns) → AreAlike [] (y ∷ ys) → ⊥
none_alike y ys h = cc

pub alike_some : (y : List Entry) (xs ys : Columns) → AreAlike xs (y ∷ ys) → (z : List Entry) × ((zs : Columns) × (xs ≡ z ∷ zs))
alike_some y [] ys h = absurd (none_alike y ys h)
alike_some y (x ∷ xs) ys h = (x, (xs, refl))

pub alike_drop : (n : ℕ) (xs ys : Columns) → AreAlike xs ys → AreAlike (drop n xs) (drop n ys)
alike_drop n xs ys h = sym (drop-map (map level) n xs) ∙ ap (drop n) h ∙ drop-map (map level) n ys

pub alike_append : (xs ys us vs : Columns) → AreAlike xs ys → AreAlike us vs → AreAlike (xs ++ us) (ys ++ vs)
alike_append xs ys us vs h k = map-append (map level) xs us ∙ ap (λ t. t ++ map (map level) us) h ∙ ap (λ t. map (map level) ys ++ t) k ∙ sym (map-append (map level) ys vs)

-- what is after stripes of the same levels has the same levels
rest_alike : (s t a b o w : List Entry) → map level s ≡ map level t → map level w ≡ map level o → o ≡ s ++ a → w ≡ t ++ b → map level b ≡ map level a
rest_alike s t a b o w st wo io iw =
    append_cancel_left (map level t) (map level b) (map level a)
    (sym (map-append level t b) ∙ ap (map level) (sym iw) ∙ wo ∙ ap (map level) io ∙ map-append level s a ∙ ap (λ x. x ++ map level a) st)

pub fronts_alike : (S T old new whole rests : Columns) → AreAlike S T → Fronts S old new → Fronts T whole rests → AreAlike whole old → AreAlike rests new
fronts_alike [] [] old new whole rests st h g w = ap (map (map level)) (sym g) ∙ w ∙ ap (map (map level)) h
fronts_alike [] (t ∷ T) old new whole rests st h g w = cc
fronts_alike (s ∷ S) [] old new whole rests st h g w = cc
fronts_alike (s ∷ S) (t ∷ T) [] new whole rests st h g w = absurd h
fronts_alike (s ∷ S) (t ∷ T) (o ∷ old) [] whole rests st h g w = absurd h
fronts_alike (s ∷ S) (t ∷ T) (o ∷ old) (n ∷ new) [] rests st h g w = absurd g
fronts_alike (s ∷ S) (t ∷ T) (o ∷ old) (n ∷ new) (v ∷ whole) [] st h g w = absurd g
fronts_alike (s ∷ S) (t ∷ T) (o ∷ old) (n ∷ new) (v ∷ whole) (r ∷ rests) st h g w =
    let heads = alike_parts s t S T st in
    let olds = alike_parts v o whole old w in
    let first : map level r ≡ map level n = rest_alike s t n r o v heads.0 olds.0 h.0 g.0 in
    let later : map (map level) rests ≡ map (map level) new = fronts_alike S T old new whole rests heads.1 h.1 g.1 olds.1 in
    ap (λ x. x ∷ map (map level) rests) first ∙ ap (λ x. map level n ∷ x) later

-- entries that are left suit as all do
all_behind : (P : Entry → Type 0) (xs ys : List Entry) → AllByRecursion P (xs ++ ys) → AllByRecursion P ys
all_behind P [] ys h = h
all_behind P (x ∷ xs) ys h = all_behind P xs ys h.1

pub suit_front : (S old new : Columns) (ws : List Want) → Fronts S old new → AllSuit ws old → AllSuit ws new
suit_front [] old new ws h g = subst (AllSuit ws) h g
suit_front (s ∷ S) [] new ws h g = absurd h
suit_front (s ∷ S) (o ∷ old) [] ws h g = absurd h
suit_front (s ∷ S) (o ∷ old) (n ∷ new) [] h g = tt
suit_front (s ∷ S) (o ∷ old) (n ∷ new) (w ∷ ws) h g = (all_behind (Suits w) s n (subst (AllByRecursion (Suits w)) h.0 g.0), suit_front S old new ws h.1 g.1)

pub suit_split : (ws vs : List Want) (cs : Columns) → AllSuit (ws ++ vs) cs → AllSuit ws cs × AllSuit vs (drop (length ws) cs)
suit_split [] vs cs h = (tt, h)
suit_split (w ∷ ws) vs [] h = (tt, none vs)
  where
    none : (vs : List Want) → AllSuit vs []
    none [] = tt
    none (v ∷ vs) = tt
suit_split (w ∷ ws) vs (c ∷ cs) h = let p = suit_split ws vs cs h.1 in ((h.0, p.0), p.1)

pub ends_split : (k : ℕ) (A B rests : Columns) → AreEnds k (A ++ B) rests → (more : Columns) → length A ≤ length rests → AreEnds k A (take (length A) rests ++ more) × AreEnds k B (drop (length A) rests)
ends_split k [] B rests h more le = (tt, h)
ends_split k (a ∷ A) B [] h more le = absurd (omega (arith, le))
ends_split k (a ∷ A) B (r ∷ rests) h more le = let p = ends_split k A B rests h.1 more (omega (arith, le)) in ((h.0, p.0), p.1)

pub fronts_length_new : (A old new : Columns) → Fronts A old new → length A ≤ length new
fronts_length_new [] old new h = omega arith
fronts_length_new (a ∷ A) [] new h = absurd h
fronts_length_new (a ∷ A) (o ∷ old) [] h = absurd h
fronts_length_new (a ∷ A) (o ∷ old) (n ∷ new) h = let k = fronts_length_new A old new h.1 in omega (arith, k)
