-- Writes at places of one buffer, one after another.
use Rattle.std.proofs.Common.{◌≡◌, ℕ, zero, suc, ◌+◌, ◌-◌, ◌<◌, ◌≤◌, List, [], ◌∷◌, ◌++◌, length, get_or, take, drop, refl, ap, sym, subst, ◌∙◌, arith, append_assoc, length-append, length-take-le, length-drop, take-add, take-take, take_at, drop_at, take_all, take-append-drop}
use Rattle.std.specs.Prelude.{map}
use Rattle.std.specs.List.{flat_map}
use Rattle.std.proofs.lemmas.List.{append-nil}
use Rattle.schema.specs.Values.{ValueTree}
use Rattle.plain.specs.inner.Placed.{Placed}
use Rattle.plain.proofs.Seen.{put_more}

-- nothing is written
pub placed_none : (a : List ℕ) (i : ℕ) → Placed a a i [] i
placed_none a i = record { bytes = sym (append-nil (take i a)); moved = omega arith; len = refl }

-- a second write begins where the first ended
pub placed_then : {a b c xs ys : List ℕ} {i j k : ℕ} → Placed a b i xs j → Placed b c j ys k → Placed a c i (xs ++ ys) k
placed_then {a} {b} {c} {xs} {ys} {i} p q = record {
  bytes = q.bytes ∙ ap (λ l. l ++ ys) p.bytes ∙ append_assoc (take i a) xs ys;
  moved = omega (arith, p.moved, q.moved, length-append xs ys);
  len = q.len ∙ p.len;
}

-- only the first n bytes of a write are kept
placed_less : {a b xs : List ℕ} {i j : ℕ} (n : ℕ) → i ≤ length a → n ≤ length xs → Placed a b i xs j → Placed a b i (take n xs) (i + n)
placed_less {a} {b} {xs} {i} {j} n within few p =
    let front = length-take-le i a within in
    record {
      bytes = sym (take-take (i + n) j b (omega (arith, p.moved))) ∙ ap (take (i + n)) p.bytes ∙ take-add i n (take i a ++ xs)
          ∙ (λ k. take_at (take i a) xs i front k ++ take n (drop_at (take i a) xs i front k));
      moved = omega (arith, length-take-le n xs few);
      len = p.len;
    }

-- the first and the last `half` bytes of a text, laid over each other, are the text
pub placed_ends : {a b c : List ℕ} {i j k : ℕ} (text : List ℕ) (half : ℕ) → i ≤ length a → half ≤ length text → length text ≤ half + half
    → Placed a b i (take half text) j → Placed b c (i + (length text - half)) (take half (drop (length text - half) text)) k → Placed a c i text k
placed_ends {a} {b} {c} {i} {j} {k} text half within fits covers p q =
    let last = length text - half in
    let both = placed_then (placed_less last within (omega (arith, length-take-le half text fits)) p) q in
    let whole : take last (take half text) ++ take half (drop last text) ≡ text =
    (λ x. take-take last half text (omega arith) x ++ take_all half (drop last text) (omega (arith, length-drop last text)) x) ∙ take-append-drop last text in
    record { bytes = both.bytes ∙ ap (λ l. take i a ++ l) whole; moved = both.moved ∙ ap (λ l. i + length l) whole; len = both.len }

-- ---- the spellings of values

part_size : (f : ValueTree → List ℕ) (n : ℕ) (xs : List ValueTree) → length (flat_map f (take n xs)) ≤ length (flat_map f xs)
part_size f zero xs = omega arith
part_size f (suc n) [] = omega arith
part_size f (suc n) (x ∷ xs) = omega (arith, part_size f n xs, length-append (f x) (flat_map f (take n xs)), length-append (f x) (flat_map f xs))

-- there is room for the next one
pub next_fits : (f : ValueTree → List ℕ) {V : Type 0} (lent : V → ValueTree) (values : List V) (i : ℕ) (item : V) (a b : List ℕ) (start at : ℕ) → i < length values → item ≡ get_or values i item
    → start + length (flat_map f (map lent values)) ≤ length a → Placed a b start (flat_map f (take i (map lent values))) at → at + length (f (lent item)) ≤ length b
next_fits f lent values i item a b start at lt is fits p =
    let more = put_more f [] lent values i item lt is in
    let part = part_size f (i + 1) (map lent values) in
    omega (arith, p.moved, p.len, fits, part, ap length more, length-append (flat_map f (take i (map lent values))) (f (lent item)))

-- and it is there then
pub next_placed : (f : ValueTree → List ℕ) {V : Type 0} (lent : V → ValueTree) (values : List V) (i : ℕ) (item : V) (a b c : List ℕ) (start at end : ℕ) → i < length values → item ≡ get_or values i item
    → Placed a b start (flat_map f (take i (map lent values))) at → Placed b c at (f (lent item)) end → Placed a c start (flat_map f (take (i + 1) (map lent values))) end
next_placed f lent values i item a b c start at end lt is p q =
    subst (λ (text : List ℕ). Placed a c start text end) (put_more f [] lent values i item lt is) (placed_then p q)

-- all are there
pub all_placed : (f : ValueTree → List ℕ) {V : Type 0} (lent : V → ValueTree) (values : List V) (i : ℕ) (a b : List ℕ) (start at : ℕ) → length (map lent values) ≤ i
    → Placed a b start (flat_map f (take i (map lent values))) at → Placed a b start (flat_map f (map lent values)) at
all_placed f lent values i a b start at past p = subst (λ (vs : List ValueTree). Placed a b start (flat_map f vs) at) (take_all i (map lent values) past) p

-- what was there before room was made
pub kept_front : (old a b r : List ℕ) (n : ℕ) → length old ≤ n → a ≡ b → b ≡ take n old ++ r → take (length old) a ≡ old
kept_front old a b r n past same is = ap (take (length old)) (same ∙ is ∙ ap (λ (t : List ℕ). t ++ r) (take_all n old past)) ∙ take_at old r (length old) refl

-- a buffer that was filled up to its end
pub filled : (old a b text : List ℕ) (end : ℕ) → take (length old) a ≡ old → length a ≡ length old + length text → Placed a b (length old) text end → b ≡ old ++ text
filled old a b text end front size p =
    sym (take_all end b (omega (arith, p.moved, p.len, size))) ∙ p.bytes ∙ ap (λ (t : List ℕ). t ++ text) front
