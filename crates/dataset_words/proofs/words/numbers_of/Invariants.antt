use Rattle.std.proofs.Common.{ℕ, List, ◌++◌, map, drop}
use Rattle.dataset_words.specs.Asked.{AreNumbers}
use Rattle.dataset_words.proofs.words.numbers_of.Given as goal

-- the numbers so far, with those of the words that remain
abbrev pub invariant-loop-word : goal.invariant-loop-word
invariant-loop-word l = (ns : List ℕ) → AreNumbers 64 (map (λ word. word.now) (drop l.word-index l.words)) ns → AreNumbers 64 (map (λ word. word.now) l.words) (l.numbers.items ++ ns)
