-- What columns hold, step by step, as values are shown.
use Rattle.std.proofs.Common.{◌≡◌, ◌≢◌, ℕ, zero, suc, ◌+◌, List, [], ◌∷◌, ◌++◌, map, length, Some, refl, ap₂, arith, length-append}
use Rattle.std.proofs.lemmas.List.{append-nil}
use Rattle.schema.specs.declared.value.Repetition.{Repetition}
use Rattle.schema.specs.declared.value.Repetition.TheVariants.{Required, Optional, Repeated}
use Rattle.schema.specs.Values.{ValueTree, null, boolean, integer, bytes, group, list}
use Rattle.schema.specs.Stripe.{Entry, entry, Leaf}
use Rattle.assemble.specs.Sinks.{Token}
use Rattle.shred.specs.declared.field.Levels.{Levels}
use Rattle.shred.specs.inner.Growing.{Columns, grown, nils}
use Rattle.shred.specs.inner.Filling.{Level, State, held, given, deeper, leaf_entry, step, run}
use Rattle.shred.proofs.Growing.{grown_whole, grown_next, grown_twice, grown_same}

pub run_append : (s : State) (ts us : List Token) → run s (ts ++ us) ≡ run (run s ts) us
run_append s [] us = refl
run_append s (t ∷ ts) us = run_append (step s t) ts us

pub same_held : (cs ds : Columns) (m n : ℕ) (here : Level) (outer : List Level) → cs ≡ ds → m ≡ n → held cs m here outer ≡ held ds n here outer
same_held cs ds m n here outer c a = ap₂ (λ (x : Columns) (k : ℕ). held x k here outer) c a

-- nothing more
pub given_none : (s : State) → given s [] ≡ s
given_none s = same_held _ _ _ _ s.here s.outer (grown_whole s.at s.columns) (omega arith)

-- some stripes, and then those of the columns after them
pub given_twice : (s : State) (xs ys : Columns) → given (given s xs) ys ≡ given s (xs ++ ys)
given_twice s xs ys =
    same_held _ _ _ _ s.here s.outer (grown_next s.at (s.at + length xs) xs ys s.columns refl)
    (let more = length-append xs ys in omega (arith, more))

-- what a value gives that is no null
pub there_given : (q : Repetition) (x : Levels) (v : ValueTree) → v ≢ null → leaf_entry q x v ≡ entry (deeper q x).repetition (deeper q x).definition (Some v)
there_given Required x v there = refl
there_given Repeated x v there = refl
there_given Optional x null there = absurd (there refl)
there_given Optional x (boolean b) there = refl
there_given Optional x (integer z) there = refl
there_given Optional x (bytes b) there = refl
there_given Optional x (group vs) there = refl
there_given Optional x (list vs) there = refl

-- two stripes of each column from a place on, one after the other
pub grown_again : (u : ℕ) (f g : Leaf → List Entry) (ls : List Leaf) (cs : Columns) → grown (grown cs (nils u ++ map f ls)) (nils u ++ map g ls) ≡ grown cs (nils u ++ map (λ (l : Leaf). f l ++ g l) ls)
grown_again zero f g ls cs = grown_twice f g ls cs
grown_again (suc u) f g ls [] = refl
grown_again (suc u) f g ls (c ∷ cs) = ap₂ (λ (x : List Entry) (xs : Columns). x ∷ xs) (append-nil (c ++ [])) (grown_again u f g ls cs)

-- no more entries of each column from a place on
pub grown_nothing : (u : ℕ) (f : Leaf → List Entry) (ls : List Leaf) (cs : Columns) → ((l : Leaf) → f l ≡ []) → grown cs (nils u ++ map f ls) ≡ cs
grown_nothing zero f ls cs h = grown_same f ls cs h
grown_nothing (suc u) f ls [] h = refl
grown_nothing (suc u) f ls (c ∷ cs) h = ap₂ (λ (x : List Entry) (xs : Columns). x ∷ xs) (append-nil c) (grown_nothing u f ls cs h)
