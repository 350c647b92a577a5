-- What a list of words picks.
use Rattle.std.proofs.Common.{◌≡◌, ◌≢◌, ◌<◌, ◌≤◌, ⊎_elim, ℕ, ◌+◌, ◌-◌, ◌*◌, ◌/◌, ◌%◌, List, [], ◌∷◌, ◌++◌, length, take, drop, get_or, slice_index, if◌then◌else◌, ◌==◌, refl, sym, ◌∙◌, ap, subst, arith}
use Rattle.std.proofs.lemmas.List.{take_all, take_more, drop-drop, drop_all, get_or-drop, get_or_append_left, get_or-append-add}
use Rattle.std.proofs.lemmas.Bool.{cases_lt}
use Rattle.lists.proofs.Booleans.{if_true as then_so, if_false as else_so}
use Rattle.mem_disk.specs.declared.node.Node.{Node}
use Rattle.mem_disk.specs.Picks.{next_word, byte_by, touched, words_after, PickInTurn}
use Rattle.mem_disk.proofs.Choices.{equal_or_not}

-- ---- in turn

turn_push : {A B : Type 0} (R : A → List ℕ → B → Type 0) (after : A → List ℕ → List ℕ) (xs : List A) (ws : List ℕ) (ys : List B) (x : A) (y : B) → PickInTurn R after xs ws ys → R x (words_after after xs ws) y → PickInTurn R after (xs ++ x ∷ []) ws (ys ++ y ∷ [])
turn_push R after [] ws [] x y turn so = (so, tt)
turn_push R after [] ws (z ∷ ys) x y turn so = absurd turn
turn_push R after (w ∷ xs) ws [] x y turn so = absurd turn
turn_push R after (w ∷ xs) ws (z ∷ ys) x y turn so = (turn.0, turn_push R after xs (after w ws) ys x y turn.1 so)

words_push : {A : Type 0} (after : A → List ℕ → List ℕ) (xs : List A) (ws : List ℕ) (x : A) → words_after after (xs ++ x ∷ []) ws ≡ after x (words_after after xs ws)
words_push after [] ws x = refl
words_push after (w ∷ xs) ws x = words_push after xs (after w ws) x

-- so many have picked, and these words are left
pub record Turns {A B : Type 0} (R : A → List ℕ → B → Type 0) (after : A → List ℕ → List ℕ) (xs : List A) (i : ℕ) (ws left : List ℕ) (ys : List B) : Type 0 where
  pub turn : PickInTurn R after (take i xs) ws ys
  pub behind : left ≡ words_after after (take i xs) ws

pub turns_more : {A B : Type 0} (R : A → List ℕ → B → Type 0) (after : A → List ℕ → List ℕ) (xs : List A) (i : ℕ) (ws left next : List ℕ) (ys new : List B) (x : A) (y : B) → i < length xs → x ≡ get_or xs i x → Turns R after xs i ws left ys → R x left y → next ≡ after x left → new ≡ ys ++ y ∷ [] → Turns R after xs (i + 1) ws next new
turns_more {A} {B} R after xs i ws left next ys new x y lt is turns so rest more =
    let front : take (i + 1) xs ≡ take i xs ++ x ∷ [] = take_more xs i x lt ∙ ap (λ (z : A). take i xs ++ z ∷ []) (sym is) in
    record {
      turn = subst (λ (zs : List B). PickInTurn R after (take (i + 1) xs) ws zs) (sym more)
          (subst (λ (vs : List A). PickInTurn R after vs ws (ys ++ y ∷ [])) (sym front)
          (turn_push R after (take i xs) ws ys x y turns.turn (subst (λ (vs : List ℕ). R x vs y) turns.behind so)));
      behind = rest ∙ ap (after x) turns.behind ∙ sym (words_push after (take i xs) ws x) ∙ ap (λ (vs : List A). words_after after vs ws) (sym front);
    }

pub turns_all : {A B : Type 0} (R : A → List ℕ → B → Type 0) (after : A → List ℕ → List ℕ) (xs : List A) (i : ℕ) (ws left : List ℕ) (ys : List B) → length xs ≤ i → Turns R after xs i ws left ys → PickInTurn R after xs ws ys
turns_all {A} R after xs i ws left ys le turns = subst (λ (vs : List A). PickInTurn R after vs ws ys) (take_all i xs le) turns.turn

pub turns_left : {A B : Type 0} (R : A → List ℕ → B → Type 0) (after : A → List ℕ → List ℕ) (xs : List A) (i : ℕ) (ws left : List ℕ) (ys : List B) → length xs ≤ i → Turns R after xs i ws left ys → left ≡ words_after after xs ws
turns_left {A} R after xs i ws left ys le turns = turns.behind ∙ ap (λ (vs : List A). words_after after vs ws) (take_all i xs le)

-- ---- sectors

-- the bytes up to here are what the words say, this is the word of the last sector, and these words are left
pub record Sectors (node : Node) (ws : List ℕ) (here word : ℕ) (left bytes : List ℕ) : Type 0 where
  pub behind : left ≡ drop (1 + touched node here) ws
  pub current : here % 512 ≢ 0 → word ≡ slice_index ws (here / 512 - node.synced / 512 + 1)
  pub done : (j : ℕ) → 512 * (node.synced / 512) ≤ j → j < here → slice_index bytes j ≡ byte_by node j (slice_index ws (j / 512 - node.synced / 512 + 1))

edge_word : (s here : ℕ) → 512 * s ≤ here → here % 512 ≡ 0 → 1 + ((here + 511) / 512 - s) + 0 ≡ here / 512 - s + 1
edge_word s here lo edge = omega (arith, lo, edge)

edge_more : (s here : ℕ) → 512 * s ≤ here → here % 512 ≡ 0 → 1 + ((here + 511) / 512 - s) + 1 ≡ 1 + ((here + 1 + 511) / 512 - s)
edge_more s here lo edge = omega (arith, lo, edge)

inner_more : (s here : ℕ) → here % 512 ≢ 0 → 1 + ((here + 511) / 512 - s) ≡ 1 + ((here + 1 + 511) / 512 - s)
inner_more s here inner = let same : (here + 511) / 512 ≡ (here + 1 + 511) / 512 = omega (arith, inner) in ap (λ (k : ℕ). 1 + (k - s)) same

inner_next : (s here : ℕ) → (here + 1) % 512 ≢ 0 → here / 512 - s + 1 ≡ (here + 1) / 512 - s + 1
inner_next s here inner = let same : here / 512 ≡ (here + 1) / 512 = omega (arith, inner) in ap (λ (k : ℕ). k - s + 1) same

module _ (node : Node) (ws : List ℕ) (here word : ℕ) (left bytes : List ℕ) (next : ℕ) (rest : List ℕ) (lo : 512 * (node.synced / 512) ≤ here) (so : Sectors node ws here word left bytes) (turn : next ≡ (if here % 512 == 0 then next_word left else word)) (gone : rest ≡ (if here % 512 == 0 then drop 1 left else left)) where
  abbrev s : ℕ
  s = node.synced / 512

  now_word : next ≡ slice_index ws (here / 512 - s + 1)
  now_word = ⊎_elim
      (λ edge. turn ∙ then_so (here % 512 == 0) (next_word left) word edge.1 ∙ ap (λ (vs : List ℕ). get_or vs 0 0) so.behind
      ∙ get_or-drop (1 + touched node here) ws 0 0 ∙ ap (λ (k : ℕ). get_or ws k 0) (edge_word s here lo edge.0))
      (λ inner. turn ∙ else_so (here % 512 == 0) (next_word left) word inner.1 ∙ so.current inner.0)
      (equal_or_not (here % 512) 0)

  now_left : rest ≡ drop (1 + touched node (here + 1)) ws
  now_left = ⊎_elim
      (λ edge. gone ∙ then_so (here % 512 == 0) (drop 1 left) left edge.1 ∙ ap (drop 1) so.behind
      ∙ drop-drop 1 (1 + touched node here) ws ∙ ap (λ (k : ℕ). drop k ws) (edge_more s here lo edge.0))
      (λ inner. gone ∙ else_so (here % 512 == 0) (drop 1 left) left inner.1 ∙ so.behind ∙ ap (λ (k : ℕ). drop k ws) (inner_more s here inner.0))
      (equal_or_not (here % 512) 0)

  pub sectors_more : (b : ℕ) (new : List ℕ) → length bytes ≡ here → b ≡ byte_by node here next → new ≡ bytes ++ b ∷ [] → Sectors node ws (here + 1) next rest new
  sectors_more b new long is more = record {
    behind = now_left;
    current = λ inner. now_word ∙ ap (slice_index ws) (inner_next s here inner);
    done = λ j from to. ⊎_elim
        (λ lt. ap (λ (xs : List ℕ). get_or xs j 0) more ∙ get_or_append_left bytes (b ∷ []) 0 j (omega (arith, lt, long)) ∙ so.done j from lt)
        (λ ge.
        let same : j ≡ here = omega (arith, ge, to) in
        let last : j ≡ length bytes + 0 = omega (arith, same, long) in
        ap (λ (xs : List ℕ). get_or xs j 0) more ∙ ap (λ (k : ℕ). get_or (bytes ++ b ∷ []) k 0) last ∙ get_or-append-add bytes (b ∷ []) 0 0 ∙ is
        ∙ ap (byte_by node here) now_word ∙ ap (λ (k : ℕ). byte_by node k (slice_index ws (k / 512 - s + 1))) (sym same))
        (cases_lt j here);
  }

-- ---- one word after the other

pub no_word : (ws : List ℕ) (n : ℕ) → length ws ≤ n → 0 ≡ slice_index (drop n ws) 0
no_word ws n all = sym (ap (λ (vs : List ℕ). get_or vs 0 0) (drop_all n ws all))

pub no_rest : (ws : List ℕ) (n : ℕ) → length ws ≤ n → drop n ws ≡ drop 1 (drop n ws)
no_rest ws n all = sym (drop-drop 1 n ws ∙ drop_all (n + 1) ws (omega (arith, all)) ∙ sym (drop_all n ws all))

pub one_word : (ws : List ℕ) (n word : ℕ) → word ≡ slice_index ws n → word ≡ slice_index (drop n ws) 0
one_word ws n word is = let same : n ≡ n + 0 = omega arith in is ∙ ap (λ (k : ℕ). get_or ws k 0) same ∙ sym (get_or-drop n ws 0 0)

pub one_rest : (ws : List ℕ) (n : ℕ) → drop (n + 1) ws ≡ drop 1 (drop n ws)
one_rest ws n = sym (drop-drop 1 n ws)
