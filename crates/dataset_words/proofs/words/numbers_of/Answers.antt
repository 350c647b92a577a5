use Rattle.std.proofs.Common.{◌≤◌, ℕ, List, [], ◌++◌, length, map, drop, sym, subst, arith}
use Rattle.std.specs.Borrow.{Bor}
use Rattle.std.proofs.lemmas.List.{drop_all, append-nil}
use Rattle.dataset_words.specs.Asked.{AreNumbers}
use Rattle.dataset_words.proofs.words.numbers_of.Goals as goal

-- where no word is left
all_numbers : (words : List (Bor (List ℕ))) (i : ℕ) (numbers : List ℕ) → length words ≤ i
    → ((ns : List ℕ) → AreNumbers 64 (map (λ (w : Bor (List ℕ)). w.now) (drop i words)) ns → AreNumbers 64 (map (λ (w : Bor (List ℕ)). w.now) words) (numbers ++ ns))
    → AreNumbers 64 (map (λ (w : Bor (List ℕ)). w.now) words) numbers
all_numbers words i numbers le so_far =
    let none : AreNumbers 64 (map (λ (w : Bor (List ℕ)). w.now) (drop i words)) [] = subst (λ (ws : List (Bor (List ℕ))). AreNumbers 64 (map (λ (w : Bor (List ℕ)). w.now) ws) []) (sym (drop_all i words le)) tt in
    subst (λ (ns : List ℕ). AreNumbers 64 (map (λ (w : Bor (List ℕ)). w.now) words) ns) (append-nil numbers) (so_far [] none)

pub returns-clause-are : goal.returns-clause-are
returns-clause-are c = all_numbers c.args.words.now c.loop-word.word-index c.loop-word.numbers.items (omega (arith, c.loop-word-test.false)) c.loop-word.invariant
